-- The supported paths, as texts.
use Rattle.std.specs.Prelude.{⊤, ℕ, List, ◌++◌, codes, decimal, IsTrue}
use Rattle.values.specs.Names.{is_name}
use Rattle.values.specs.Serials.{is_serial}
use Rattle.http_requests.specs.declared.resource.Resource.{Resource}
use Rattle.http_requests.specs.declared.resource.Resource.TheVariants.{Pending, Certificate, Body}
use Rattle.http_requests.specs.declared.resource.Resource.TheVariants.{RevocationList, Signers, Table, Cas, Departments}

-- a path leads to the messages of a caller under a request ID (`key`), or to a resource
pub data Path : Type 0 where
  message : (caller key : List ℕ) → Path
  resource : Resource → Path

-- names and serials are valid
abbrev pub IsPath : Path → Type 0
IsPath (message caller key) = IsTrue (is_name caller) × IsTrue (is_name key)
IsPath (resource (Certificate n)) = IsTrue (is_serial n)
IsPath (resource (Body n)) = IsTrue (is_serial n)
IsPath (resource r) = ⊤

-- the text of a path
abbrev pub path_text : Path → List ℕ
path_text (message caller key) = codes "/v1/callers/" ++ (caller ++ (codes "/requests/" ++ key))
path_text (resource Pending) = codes "/v1/pending"
path_text (resource (Certificate n)) = codes "/v1/certs/" ++ decimal n
path_text (resource (Body n)) = codes "/v1/certs/" ++ (decimal n ++ codes "/body")
path_text (resource RevocationList) = codes "/v1/krl"
path_text (resource Signers) = codes "/v1/signers"
path_text (resource Table) = codes "/v1/table"
path_text (resource Cas) = codes "/v1/cas"
path_text (resource Departments) = codes "/v1/departments"
