-- The routes as the router stores them.
use Rattle.std.specs.Prelude.{ℕ, List, [], ◌∷◌, ◌++◌, Result, Ok, Err, codes}
use Rattle.matchit.specs.declared.error.InsertError.{InsertError}
use Rattle.matchit.specs.Order.{placed}
use Rattle.matchit.specs.Route.{Scan, parse_route}
use Rattle.matchit.specs.Router.{RouteOf, route_from}
use Rattle.matchit.specs.Rows.{RowsOf, param_token}
use Rattle.http_requests.specs.declared.resource.Resource.TheVariants.{Pending, RevocationList, Signers, Table, Cas}
use Rattle.http_requests.specs.declared.resource.Resource.TheVariants.{Departments}
use Rattle.http_requests.specs.declared.router.RouteKind.{RouteKind}
use Rattle.http_requests.specs.declared.router.RouteKind.TheVariants.{Message, Certificate, Body, Fixed}
use Rattle.http_requests.specs.Paths.{resource, path_text}

-- the pattern of each route
abbrev pub pattern_of : RouteKind → List ℕ
pattern_of Message = codes "/v1/callers/" ++ param_token ∷ codes "/requests/" ++ param_token ∷ []
pattern_of Certificate = codes "/v1/certs/" ++ param_token ∷ []
pattern_of Body = codes "/v1/certs/" ++ param_token ∷ codes "/body"
pattern_of (Fixed r) = path_text (resource r)

-- its text, and the positions of its parameters' names in it
abbrev pub route_text : RouteKind → List ℕ
route_text Message = codes "/v1/callers/{caller}/requests/{key}"
route_text Certificate = codes "/v1/certs/{serial}"
route_text Body = codes "/v1/certs/{serial}/body"
route_text (Fixed r) = path_text (resource r)

abbrev pub names_of : RouteKind → List (ℕ × ℕ)
names_of Message = (13, 19) ∷ (31, 34) ∷ []
names_of Certificate = (11, 17) ∷ []
names_of Body = (11, 17) ∷ []
names_of (Fixed r) = []

-- the row of each route
abbrev pub route_row : RouteKind → RouteOf RouteKind
route_row kind = record { pattern = pattern_of kind; text = route_text kind; names = names_of kind; value = kind }

abbrev pub rows_of : List RouteKind → RowsOf (RouteOf RouteKind)
rows_of [] = []
rows_of (kind ∷ rest) = (pattern_of kind, route_row kind) ∷ rows_of rest

-- the routes, in the order in which a router stores them
abbrev pub kinds : List RouteKind
kinds =
    Message ∷ Fixed Cas ∷ Body ∷ Certificate ∷ Fixed Departments ∷ Fixed RevocationList ∷ Fixed Pending
    ∷ Fixed Signers ∷ Fixed Table ∷ []

-- their rows
abbrev pub routing : RowsOf (RouteOf RouteKind)
routing = rows_of kinds

-- the rows of the routes with parameters
abbrev pub routing_by_parameters : RowsOf (RouteOf RouteKind)
routing_by_parameters = rows_of (Message ∷ Body ∷ Certificate ∷ [])

-- the rows of a router after a route was inserted, if its text is valid
abbrev with_read : Result Scan InsertError → RouteKind → RowsOf (RouteOf RouteKind) → RowsOf (RouteOf RouteKind)
with_read (Ok scan) kind rows = placed (scan.pattern, route_from scan kind) rows
with_read (Err e) kind rows = rows

abbrev pub with_route : List ℕ → RouteKind → RowsOf (RouteOf RouteKind) → RowsOf (RouteOf RouteKind)
with_route text kind rows = with_read (parse_route text) kind rows
