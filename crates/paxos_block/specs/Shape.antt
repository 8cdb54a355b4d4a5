-- Of the headline. How large a cluster is.
use Rattle.std.specs.Prelude.{ℕ}

-- how many disks it has, and how many slots its log
pub record Shape : Type 0 where
  pub disks : ℕ
  pub slots : ℕ
