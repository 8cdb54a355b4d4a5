-- What carries a table over comes first, where nobody tries these slots but with it.
use Rattle.std.specs.Prelude.{slice_get}
use Rattle.std.proofs.Common.{ℕ, suc, ◌≤◌, ◌≡◌, Some, List, [], ◌∷◌, ◌++◌, length, drop, refl, sym, subst, ap, ◌∙◌, arith}
use Rattle.lock_command.specs.declared.command.Command.{Command}
use Rattle.lock_command.specs.Command.{spelling}
use Rattle.paxos_block.specs.Shape.{Shape}
use Rattle.world.specs.Entry.{Filled}
use Rattle.world.specs.World.{IsRun, ReadsBack}
use Rattle.world.specs.Chosen.{migrated, IsChosen}
use Rattle.world.specs.Headline.{prefix_at}
use Rattle.endless.specs.Epochs.{CarriesFirst, CarriedComesFirst}
use Rattle.endless.proofs.Puts.{IsPutBy, one_spelled, put_before, put_chosen, learned_chosen}

-- a list that has these items first begins with them
pub begins : (over learned : List Command) → length over ≤ length learned → ((k : ℕ) (command wanted : Command) → slice_get learned k ≡ Some command → slice_get over k ≡ Some wanted → command ≡ wanted)
    → learned ≡ over ++ drop (length over) learned
begins [] learned fits same = refl
begins (wanted ∷ over) [] fits same = absurd (omega (arith, fits))
begins (wanted ∷ over) (command ∷ learned) fits same =
    let rest = begins over learned (omega (arith, fits)) (λ k. same (suc k)) in
    let one = same 0 command wanted refl refl in
    λ i. one i ∷ rest i

module _ (c : Shape) (log : List Filled) (over : List Command) (run : IsRun c log) (fresh : migrated log ≡ []) (first : CarriesFirst c log over) where
  none_first : (slot : ℕ) → length (migrated log) ≤ slot
  none_first slot = let none = ap (λ (l : List Command). length l) fresh in omega (arith, none)

  -- whoever put it in submitted the command of the slot
  put_is : (slot : ℕ) (value : List ℕ) (wanted : Command) → (put : IsPutBy c log slot value) → slice_get over slot ≡ Some wanted → put.command ≡ wanted
  put_is slot value wanted put here = first put.place put.host put.memory put.doing put.command wanted put.call put.running put.does put.submits (ap (slice_get over) (sym put.on_slot) ∙ here)

  pub chosen : (slot : ℕ) (value : List ℕ) (wanted : Command) → IsChosen c log slot value → slice_get over slot ≡ Some wanted → value ≡ spelling wanted
  chosen slot value wanted is here = let put = put_chosen c log run slot value (none_first slot) is in put.spelled ∙ ap spelling (put_is slot value wanted put here)

  -- a command that was put in there is the one of the slot
  stands_first : (slot : ℕ) (command wanted : Command) → ReadsBack command → IsPutBy c log slot (spelling command) → slice_get over slot ≡ Some wanted → command ≡ wanted
  stands_first slot command wanted reads put here =
      let is = put_is slot (spelling command) wanted put here in
      one_spelled command wanted reads (subst ReadsBack is put.begun.reads) (put.spelled ∙ ap spelling is)

  -- a command that is chosen in one of the first slots is the one of the slot
  pub chosen_first : (slot : ℕ) (command wanted : Command) → ReadsBack command → IsChosen c log slot (spelling command) → slice_get over slot ≡ Some wanted → command ≡ wanted
  chosen_first slot command wanted reads is here = stands_first slot command wanted reads (put_chosen c log run slot (spelling command) (none_first slot) is) here

  pub prefix_first : (i h : ℕ) → length over ≤ length (prefix_at c log i h) → prefix_at c log i h ≡ over ++ drop (length over) (prefix_at c log i h)
  prefix_first i h fits =
      begins over (prefix_at c log i h) fits (λ k command wanted found here.
      let known = learned_chosen c log run i h k command found in
      stands_first k command wanted known.0 (put_before c log run i k (spelling command) (none_first k) known.1) here)

pub carried_comes_first : CarriedComesFirst
carried_comes_first c log over run fresh first = (
  chosen c log over run fresh first,
  λ i h fits. (drop (length over) (prefix_at c log i h), prefix_first c log over run fresh first i h fits),
)
