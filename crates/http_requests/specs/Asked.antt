-- The ask that a returned value represents.
use Rattle.http_requests.specs.declared.asked.Asked.{Asked}
use Rattle.http_requests.specs.declared.asked.Asked.TheVariants.{Refused, Get, Post}
use Rattle.http_requests.specs.Asks.{Ask, refused, get, post}

-- caller, key and message as bytes
abbrev pub ask_of : Asked → Ask
ask_of (Refused r) = refused r
ask_of (Get r) = get r
ask_of (Post caller key message) = post caller.now key.now message.now
