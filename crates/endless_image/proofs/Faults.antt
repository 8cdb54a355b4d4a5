-- The order in which the faults of an image are told.
use Rattle.std.specs.Prelude.{◌≡◌, ◌↔◌, ◌+◌, ◌-◌, ◌≤◌, ◌<◌, ◌^◌, ℕ, List, [], ◌∷◌, drop, slice_index, Some}
use Rattle.std.proofs.Common.{refl, sym, ◌∙◌, ap, subst, arith, inl, inr, get_or}
use Rattle.std.proofs.lemmas.Bool.{cases_lt}
use Rattle.endless_image.specs.declared.fault.HeaderFault.{HeaderFault}
use Rattle.endless_image.specs.declared.fault.HeaderFault.TheVariants.{NotFormatted, OlderVersion, NewerVersion, WrongDisk, WrongDisks, WrongSlots, WrongEpoch, Unfinished, Damaged, WrongLength}
use Rattle.endless_image.specs.Headers.{IsAmong, Has, IsFirst, rank, header_in}
use Rattle.endless_image.specs.Sizes.{IsSlotCount}
use Rattle.paxos_block.specs.Saying.{zeros}

abbrev all : List HeaderFault
all =
    NotFormatted ∷ OlderVersion ∷ NewerVersion ∷ WrongDisk ∷ WrongDisks ∷ WrongSlots ∷ WrongEpoch ∷ Unfinished ∷ Damaged ∷ WrongLength ∷ []

at_rank : (fault : HeaderFault) → get_or all (rank fault) WrongLength ≡ fault
at_rank NotFormatted = refl
at_rank OlderVersion = refl
at_rank NewerVersion = refl
at_rank WrongDisk = refl
at_rank WrongDisks = refl
at_rank WrongSlots = refl
at_rank WrongEpoch = refl
at_rank Unfinished = refl
at_rank Damaged = refl
at_rank WrongLength = refl

same_rank : (a b : HeaderFault) → rank a ≡ rank b → a ≡ b
same_rank a b same = sym (at_rank a) ∙ ap (λ (n : ℕ). get_or all n WrongLength) same ∙ at_rank b

module _ (disk long : ℕ) (bytes : List ℕ) where
  -- no fault that is told before this place has a cause
  abbrev pub Passes : ℕ → Type 0
  Passes n = (other : HeaderFault) → rank other < n → ¬ Has disk long bytes other

  pub none_yet : Passes 0
  none_yet other below has = absurd (omega (arith, below))

  pub one_more : (fault : HeaderFault) → Passes (rank fault) → ¬ Has disk long bytes fault → Passes (rank fault + 1)
  one_more fault before lacks other below has =
      elim (cases_lt (rank other) (rank fault)) [
        | inl less ↦ before other less has
        | inr from_there ↦ lacks (subst (Has disk long bytes) (same_rank other fault (omega (arith, below, from_there))) has)
      ]

  -- a fault that has its cause, and is the first
  pub told : (fault : HeaderFault) → Passes (rank fault) → Has disk long bytes fault → (other : HeaderFault) → (Some fault ≡ Some other) ↔ IsFirst disk long bytes other
  told fault before has other = (
    (λ is. let same : fault ≡ other = cc is in subst (IsFirst disk long bytes) same (record { has = has; before = before })),
    (λ first.
        elim (cases_lt (rank other) (rank fault)) [
          | inl less ↦ absurd (before other less first.has)
          | inr from_there ↦
              elim (cases_lt (rank fault) (rank other)) [
                | inl more ↦ absurd (first.before fault more has)
                | inr same ↦ ap (λ (f : HeaderFault). Some f) (same_rank fault other (omega (arith, from_there, same)))
              ]
        ]),
  )

-- ---- what holds once the tests before a fault are passed

module _ (disk long : ℕ) (bytes : List ℕ) (gate : slice_index bytes 0 ≡ 165) where
  pub at_older : Passes disk long bytes 1
  at_older = one_more disk long bytes NotFormatted (none_yet disk long bytes) (λ has. has gate)

  module _ (least : 4 ≤ slice_index bytes 1) where
    pub at_newer : Passes disk long bytes 2
    at_newer = one_more disk long bytes OlderVersion at_older (λ has. absurd (omega (arith, has, least)))

    module _ (most : slice_index bytes 1 ≤ 4) where
      pub at_disk : Passes disk long bytes 3
      at_disk = one_more disk long bytes NewerVersion at_newer (λ has. absurd (omega (arith, has, most)))

      module _ (named : (header_in bytes).disk ≡ disk) where
        pub at_disks : Passes disk long bytes 4
        at_disks = one_more disk long bytes WrongDisk at_disk (λ has. has named)

        module _ (among : IsAmong (header_in bytes).disk (header_in bytes).disks) where
          pub at_slots : Passes disk long bytes 5
          at_slots = one_more disk long bytes WrongDisks at_disks (λ has. has among)

          module _ (slots : IsSlotCount (header_in bytes).slots) where
            pub at_epoch : Passes disk long bytes 6
            at_epoch = one_more disk long bytes WrongSlots at_slots (λ has. has slots)

            module _ (epoch : (header_in bytes).first_epoch ≤ 2 ^ 62) where
              pub at_mark : Passes disk long bytes 7
              at_mark = one_more disk long bytes WrongEpoch at_epoch (λ has. absurd (omega (arith, has, epoch)))

              module _ (mark : slice_index bytes 24 ≡ 0) where
                pub at_rest : Passes disk long bytes 8
                at_rest = one_more disk long bytes Unfinished at_mark (λ has. has mark)

                pub at_length : drop 25 bytes ≡ zeros (1024 - 25) → Passes disk long bytes 9
                at_length rest = one_more disk long bytes Damaged at_rest (λ has. has rest)
