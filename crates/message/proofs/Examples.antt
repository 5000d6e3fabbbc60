-- Worked examples of messages, computed by the definitions.
use Rattle.message.proofs.Words.{None, Some, User, [], codes, message_text, refl, replicate, ◌++◌, ◌∷◌, ◌≡◌}
use Rattle.std.specs.Fmt.{digits}
use Rattle.base64.proofs.OnLiterals.{base64_on_literals}
use Rattle.lines.specs.declared.subject.KeyType.TheVariants.{Ed25519}
use Rattle.message.specs.declared.kinds.Message.TheVariants as message

-- a department
pub department : message_text (message.Department (record {
  name = codes "web";
  kind = User;
  administrators = codes "ana" ∷ [];
  rules = codes "alice" ∷ codes "*@example.org" ∷ [];
  options = codes "force-command" ∷ [];
  demands = [];
  extensions = codes "permit-pty" ∷ [];
  key_types = [];
  longest_life = 86400;
  namespaces = codes "file" ∷ codes "git" ∷ [];
})) ≡ codes "department web\nkind user\nadmins ana\nprincipals alice,*@example.org\noptions force-command\n" ++
    codes "extensions permit-pty\nmaxlife 86400\nnamespaces file,git\n"
unfolding digits
department = refl

-- a department whose certificates must have two options, for keys in security keys
pub demanding : message_text (message.Department (record {
  name = codes "web";
  kind = User;
  administrators = codes "ana" ∷ [];
  rules = codes "alice" ∷ [];
  options = [];
  demands = record { name = codes "source-address"; value = codes "10.0.0.0/8" }
      ∷ record { name = codes "verify-required"; value = [] } ∷ [];
  extensions = [];
  key_types = codes "sk-ssh-ed25519@openssh.com" ∷ codes "sk-ecdsa-sha2-nistp256@openssh.com" ∷ [];
  longest_life = 86400;
  namespaces = [];
})) ≡ codes "department web\nkind user\nadmins ana\nprincipals alice\noptions\nmust source-address 10.0.0.0/8\n" ++
    (codes "must verify-required\nextensions\n" ++
    (codes "key-types sk-ssh-ed25519@openssh.com,sk-ecdsa-sha2-nistp256@openssh.com\n" ++
    codes "maxlife 86400\nnamespaces\n"))
unfolding digits
demanding = refl

-- an issue for the key of 32 bytes 0x22, with two options
pub issue : message_text (message.Issue (record {
  department = codes "web";
  key_id = codes "web/alice";
  key = record { key_type = Ed25519; key = replicate 32 34 ∷ []; comment = None };
  principals = codes "alice" ∷ [];
  after = 1000;
  before = 2000;
  options = record { name = codes "verify-required"; value = [] }
      ∷ record { name = codes "force-command"; value = codes "/bin/true" } ∷ [];
  extensions = [];
})) ≡ codes "issue web\nkeyid web/alice\n" ++
    (codes "key ssh-ed25519 AAAAC3NzaC1lZDI1NTE5AAAAICIiIiIiIiIiIiIiIiIiIiIiIiIiIiIiIiIiIiIiIiIi\n" ++
    (codes "principals alice\nafter 1000\nbefore 2000\n" ++
    codes "option verify-required\noption force-command /bin/true\nextensions\n"))
unfolding base64_on_literals digits
issue = refl

-- a renewal
pub renewal : message_text (message.Renew (record { serial = 1; after = 1500; before = 2500 }))
    ≡ codes "renew 1\nafter 1500\nbefore 2500\n"
unfolding digits
renewal = refl

-- a delivery of the signature of 64 bytes 0x44
pub delivery : message_text (message.Deliver (record {
  serial = 1;
  digest = replicate 64 48;
  signature = record { bytes = replicate 64 68 };
})) ≡ codes "deliver 1\ndigest " ++ (replicate 64 48 ++ (codes "\nsignature " ++
    codes "AAAAC3NzaC1lZDI1NTE5AAAAQEREREREREREREREREREREREREREREREREREREREREREREREREREREREREREREREREREREREREREREREREREREQ=\n"))
unfolding base64_on_literals digits
delivery = refl

-- revocations
pub revocations : (message_text (message.RevokeSerial 1) ≡ codes "revoke-serial 1\n")
    × (message_text (message.RevokeRange (record { lo = 3; hi = 10 })) ≡ codes "revoke-range 3 10\n")
    × (message_text (message.RevokeKeyId (codes "web/alice")) ≡ codes "revoke-keyid web/alice\n")
unfolding digits
revocations = (refl, refl, refl)

-- a rollover to the key of 32 bytes 0x12
pub rollover : message_text (message.Rollover (record { key = replicate 32 18; comment = Some (codes "next") }))
    ≡ codes "rollover ssh-ed25519 AAAAC3NzaC1lZDI1NTE5AAAAIBISEhISEhISEhISEhISEhISEhISEhISEhISEhISEhIS next\n"
unfolding base64_on_literals
rollover = refl
