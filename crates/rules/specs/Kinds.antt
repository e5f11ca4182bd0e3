-- The numbers of the kinds of orders (RULES 6.1) and of requests (RULES 8.8).
-- Assumes nothing.
use Rattle.std.specs.Prelude.{◌≡◌, ◌<◌, ℕ, Result, MatchResult}
use Rattle.rules.specs.declared.OrderKind.{OrderKind}
use Rattle.rules.specs.declared.OrderKind.TheVariants.{OuterVertex, OuterToken, Lock, InnerVertex, InnerToken, LetIn, Encrypt, InnerRow, OuterRow}
use Rattle.rules.specs.declared.RequestKind.{RequestKind}
use Rattle.rules.specs.declared.RequestKind.TheVariants.{Join, Insert, Grant, Revoke, Open, Leave}
use Rattle.rules.specs.declared.UnknownKind.{UnknownKind}

abbrev pub order_number : OrderKind → ℕ
order_number OuterVertex = 1
order_number OuterToken = 2
order_number Lock = 3
order_number InnerVertex = 4
order_number InnerToken = 5
order_number LetIn = 6
order_number Encrypt = 7
order_number InnerRow = 105
order_number OuterRow = 111

abbrev pub request_number : RequestKind → ℕ
request_number Join = 0
request_number Insert = 1
request_number Grant = 2
request_number Revoke = 3
request_number Open = 4
request_number Leave = 5

-- the kind with this number, or an error with a number that no kind has
abbrev pub KindOf : ℕ → Result RequestKind UnknownKind → Type 0
KindOf n r = MatchResult r (λ k. request_number k ≡ n) (λ e. (e.0 ≡ n) × (5 < n))
