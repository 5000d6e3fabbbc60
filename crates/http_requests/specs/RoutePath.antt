-- The path that a route represents.
use Rattle.http_requests.specs.declared.route.Route.{Route}
use Rattle.http_requests.specs.declared.route.Route.TheVariants.{Message, Resource}
use Rattle.http_requests.specs.Paths.{Path, message, resource}

-- caller and key as bytes
abbrev pub path_of : Route → Path
path_of (Message caller key) = message caller.now key.now
path_of (Resource r) = resource r
