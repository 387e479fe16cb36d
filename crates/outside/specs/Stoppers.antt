-- What a stopper tells of its requests.
use Rattle.std.specs.Prelude.{◌++◌, [], ◌∷◌, ℕ, List, Option, option_map}
use Rattle.outside.specs.declared.stopper.Request.{Request}

abbrev pub request_of : ℕ → ℕ → Request
request_of job attempt = record { job = job; attempt = attempt }

-- the requests with one more, where they are told
abbrev pub with_request : Option (List Request) → Request → Option (List Request)
with_request requests request = option_map (λ before. before ++ request ∷ []) requests
