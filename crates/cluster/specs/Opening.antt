-- A cluster before it has a name.
use Rattle.std.specs.Prelude.{◌≡◌, ℕ}
use Rattle.atomic_table.specs.Seated.{TableId}
use Rattle.paxos_block.specs.Shape.{Shape}

-- how large it is, its table of tokens, and its ledger of promises: the ledger's name, and how many parts it has
pub record OpeningState : Type 0 where
  pub shape : Shape
  pub table : TableId
  pub ledger : ℕ
  pub parts : ℕ

-- a name stands for this cluster
abbrev pub IsNamed : OpeningState → Shape → TableId → ℕ → ℕ → ℕ → Type 0
IsNamed o shape table ledger parts all =
    (o.shape ≡ shape) × (o.table ≡ table) × (o.ledger ≡ ledger) × (o.parts ≡ parts) × (o.parts ≡ all)
