-- The kinds of texts and of lists that readers distinguish.
use Rattle.std.specs.Prelude.{ℕ, List, Bool, ◌&&◌, codes}
use Rattle.values.specs.declared.option_field.OptionField.TheVariants as field
use Rattle.values.specs.Names.{is_administrator, is_name, is_rule, is_principal, is_key_id, is_namespace}
use Rattle.values.specs.Options.{is_known}
use Rattle.message.specs.declared.lists.ListKind.{ListKind}
use Rattle.message.specs.declared.lists.ListKind.TheVariants as list
use Rattle.message.specs.declared.lists.TextKind.{TextKind}
use Rattle.message.specs.declared.lists.TextKind.TheVariants as text
use Rattle.message.specs.Values.{
  are_administrators,
  are_rules,
  are_principals,
  are_option_names,
  are_extension_names,
  are_key_types,
  are_namespaces,
  fits_bare_name,
  fits_kind,
  is_key_type,
}

-- the test for texts of this kind
abbrev pub is_text : TextKind → List ℕ → Bool
is_text text.Name = is_name
is_text text.Administrator = is_administrator
is_text text.KeyId = is_key_id
is_text text.Rule = is_rule
is_text text.Principal = is_principal
is_text text.OptionName = is_known field.CriticalOptions
is_text text.ExtensionName = is_known field.Extensions
is_text text.KeyType = is_key_type
is_text text.Namespace = is_namespace

-- the word before a list of this kind
abbrev pub list_word : ListKind → List ℕ
list_word list.Administrators = codes "admins"
list_word list.Rules = codes "principals"
list_word list.Principals = codes "principals"
list_word list.Extensions = codes "extensions"
list_word (list.OptionsOf kind) = codes "options"
list_word (list.ExtensionsOf kind) = codes "extensions"
list_word list.KeyTypes = codes "key-types"
list_word (list.NamespacesOf kind bare) = codes "namespaces"

-- the test for lists of this kind
abbrev pub is_list : ListKind → List (List ℕ) → Bool
is_list list.Administrators = are_administrators
is_list list.Rules = are_rules
is_list list.Principals = are_principals
is_list list.Extensions = are_extension_names
is_list (list.OptionsOf kind) = λ ts. are_option_names ts && fits_kind kind ts
is_list (list.ExtensionsOf kind) = λ ts. are_extension_names ts && fits_kind kind ts
is_list list.KeyTypes = are_key_types
is_list (list.NamespacesOf kind bare) = λ ts. are_namespaces ts && (fits_kind kind ts && fits_bare_name bare ts)
