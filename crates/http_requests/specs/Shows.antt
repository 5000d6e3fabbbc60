-- A head that was read, compared with the head in the bytes.
use Rattle.std.specs.Prelude.{◌≡◌}
use Rattle.httparse.specs.Grammar.{RequestHead}
use Rattle.http_requests.specs.declared.head.Head.{Head}
use Rattle.http_requests.specs.Heads.{lengths, is_coded, States}

-- method, target, length and coding are those of the head
pub record ShowsHead (r : Head) (h : RequestHead) : Type 0 where
  pub method : r.method.now ≡ h.method
  pub target : r.target.now ≡ h.target
  pub stated : States r.stated (lengths h)
  pub coding : r.is_coded ≡ is_coded h
