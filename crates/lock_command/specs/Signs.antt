-- The file that is a lock's sign of life.
use Rattle.std.specs.Prelude.{ℕ, List, ◌++◌, codes, decimal}

-- its name: with the number of the images whose table has the lock, the host through which it was enqueued, and the lock's number
abbrev pub sign_name : (set host lock : ℕ) → List ℕ
sign_name set host lock = codes "mg-lock." ++ decimal set ++ codes "." ++ decimal host ++ codes "." ++ decimal lock
