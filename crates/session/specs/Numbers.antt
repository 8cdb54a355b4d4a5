-- The client and the lock numbers of a host's sessions.
use Rattle.std.specs.Prelude.{ℕ, ◌+◌, ◌*◌, ◌%◌, Bool, if◌then◌else◌}

-- one client for each host
abbrev pub client_of : ℕ → ℕ
client_of host = 240 + host

-- two numbers for each request below 2,000: the second one where the host number is shared
abbrev pub lock_of : ℕ → Bool → ℕ → ℕ
lock_of host shares request = 1536 + 4000 * host + 2 * (request % 2000) + (if shares then 1 else 0)
