-- What follows for a list whose log is known.
use Rattle.std.specs.Prelude.{take, map}
use Rattle.std.proofs.Common.{ℕ, ◌≡◌, ◌≤◌, inl, inr, List, [], length, slice_get, get_or, Some, sym, ap, ◌∙◌, arith}
use Rattle.std.proofs.lemmas.List.{take-take, ext_get_or}
use Rattle.std.proofs.lemmas.Bool.{cases_lt}
use Rattle.std.proofs.lemmas.Option.{slice_get-get_or, get_or_from_slice_get}
use Rattle.lock_command.specs.declared.command.Command.{Command}
use Rattle.lock_command.specs.Command.{spelling}
use Rattle.paxos_block.specs.Shape.{Shape}
use Rattle.world.specs.Entry.{Filled}
use Rattle.world.specs.Chosen.{IsLog}
use Rattle.world.specs.Headline.{IsPrefix, prefix_at, IsSafe, HasNoSecondLog, OneBeginsOther}

-- of two beginnings of one list, the shorter begins the longer
shorter_begins : {A : Type 0} (a b l : List A) → IsPrefix a l → IsPrefix b l → length a ≤ length b → IsPrefix a b
shorter_begins a b l is_a is_b le = is_a ∙ sym (take-take (length a) (length b) l le) ∙ ap (take (length a)) (sym is_b)

module _ (c : Shape) (log : List Filled) (commands : List Command) (safe : IsSafe c log commands) where
  abbrev all : List (List ℕ)
  all = map spelling commands

  module _ (values : List (List ℕ)) (is : IsLog c log values) where
    its : (s : ℕ) (value : List ℕ) → slice_get values s ≡ Some value → slice_get all s ≡ Some value
    its s value at = safe.one s value (is.chosen s value at)

    as_many : length values ≡ length all
    as_many = elim (cases_lt (length values) (length all)) [
      | inl less ↦ absurd (is.whole _ (safe.is_log.chosen (length values) _ (slice_get-get_or all (length values) [] less)))
      | inr not_less ↦
          elim (cases_lt (length all) (length values)) [
            | inl more ↦ absurd (safe.is_log.whole _ (is.chosen (length all) _ (slice_get-get_or values (length all) [] more)))
            | inr not_more ↦ omega (arith, not_less, not_more)
          ]
    ]

    pub its_log : values ≡ all
    its_log =
        ext_get_or [] values all as_many (λ k within.
        sym (get_or_from_slice_get all k (get_or values k []) [] (its k _ (slice_get-get_or values k [] within))))

  pub one_log : HasNoSecondLog c log
  one_log first second is_first is_second = its_log first is_first ∙ sym (its_log second is_second)

  pub one_begins_other : OneBeginsOther c log
  one_begins_other i j host other =
      let a = safe.prefix i host in
      let b = safe.prefix j other in
      elim (cases_lt (length (prefix_at c log i host)) (length (prefix_at c log j other))) [
        | inl less ↦ inl (shorter_begins _ _ commands a b (omega (arith, less)))
        | inr not_less ↦ inr (shorter_begins _ _ commands b a not_less)
      ]
