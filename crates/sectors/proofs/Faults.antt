-- The order in which the faults of a device are told.
use Rattle.std.specs.Prelude.{◌≡◌, ◌↔◌, ◌+◌, ◌-◌, ◌≤◌, ◌<◌, ℕ, List, [], ◌∷◌, drop, slice_index, Some}
use Rattle.std.proofs.Common.{refl, sym, ◌∙◌, ap, subst, arith, inl, inr, get_or}
use Rattle.std.proofs.lemmas.Bool.{cases_lt}
use Rattle.sectors.specs.declared.fault.DeviceFault.{DeviceFault}
use Rattle.sectors.specs.declared.fault.DeviceFault.TheVariants.{NotFormatted, WrongVersion, WrongDisk, WrongSlots, WrongSectorSize, WrongParts, WrongHosts, WrongWrites, WrongRest, TooShort}
use Rattle.endless_image.specs.Kinds.{IsSlotsBy}
use Rattle.sectors.specs.Headers.{IsNamed, IsVersion, Has, IsFirst, rank, header_in}
use Rattle.sectors.specs.Geometry.{IsSectorSize, IsHostCount}
use Rattle.paxos_block.specs.Saying.{zeros}

abbrev all : List DeviceFault
all =
    NotFormatted ∷ WrongVersion ∷ WrongDisk ∷ WrongSlots ∷ WrongSectorSize ∷ WrongParts ∷ WrongHosts ∷ WrongWrites ∷ WrongRest ∷ TooShort ∷ []

at_rank : (fault : DeviceFault) → get_or all (rank fault) TooShort ≡ fault
at_rank NotFormatted = refl
at_rank WrongVersion = refl
at_rank WrongDisk = refl
at_rank WrongSlots = refl
at_rank WrongSectorSize = refl
at_rank WrongParts = refl
at_rank WrongHosts = refl
at_rank WrongWrites = refl
at_rank WrongRest = refl
at_rank TooShort = refl

same_rank : (a b : DeviceFault) → rank a ≡ rank b → a ≡ b
same_rank a b same = sym (at_rank a) ∙ ap (λ (n : ℕ). get_or all n TooShort) same ∙ at_rank b

module _ (disk long : ℕ) (bytes : List ℕ) where
  -- no fault that is told before this place has a cause
  abbrev pub Passes : ℕ → Type 0
  Passes n = (other : DeviceFault) → rank other < n → ¬ Has disk long bytes other

  pub none_yet : Passes 0
  none_yet other below has = absurd (omega (arith, below))

  pub one_more : (fault : DeviceFault) → Passes (rank fault) → ¬ Has disk long bytes fault → Passes (rank fault + 1)
  one_more fault before lacks other below has =
      elim (cases_lt (rank other) (rank fault)) [
        | inl less ↦ before other less has
        | inr from_there ↦ lacks (subst (Has disk long bytes) (same_rank other fault (omega (arith, below, from_there))) has)
      ]

  -- a fault that has its cause, and is the first
  pub told : (fault : DeviceFault) → Passes (rank fault) → Has disk long bytes fault → (other : DeviceFault) → (Some fault ≡ Some other) ↔ IsFirst disk long bytes other
  told fault before has other = (
    (λ is. let same : fault ≡ other = cc is in subst (IsFirst disk long bytes) same (record { has = has; before = before })),
    (λ first.
        elim (cases_lt (rank other) (rank fault)) [
          | inl less ↦ absurd (before other less first.has)
          | inr from_there ↦
              elim (cases_lt (rank fault) (rank other)) [
                | inl more ↦ absurd (first.before fault more has)
                | inr same ↦ ap (λ (f : DeviceFault). Some f) (same_rank fault other (omega (arith, from_there, same)))
              ]
        ]),
  )

-- ---- what holds once the tests before a fault are passed

module _ (disk long : ℕ) (bytes : List ℕ) (gate : slice_index bytes 0 ≡ 165) where
  pub at_version : Passes disk long bytes 1
  at_version = one_more disk long bytes NotFormatted (none_yet disk long bytes) (λ has. has gate)

  module _ (version : IsVersion (slice_index bytes 1)) where
    pub at_disk : Passes disk long bytes 2
    at_disk = one_more disk long bytes WrongVersion at_version (λ has. has version)

    module _ (named : IsNamed disk (header_in bytes)) where
      pub at_slots : Passes disk long bytes 3
      at_slots = one_more disk long bytes WrongDisk at_disk (λ has. has named)

      module _ (slots : IsSlotsBy (header_in bytes).geometry.kind (header_in bytes).geometry.slots) where
        pub at_size : Passes disk long bytes 4
        at_size = one_more disk long bytes WrongSlots at_slots (λ has. has slots)

        module _ (size : IsSectorSize (header_in bytes).geometry.sector_size) where
          pub at_parts : Passes disk long bytes 5
          at_parts = one_more disk long bytes WrongSectorSize at_size (λ has. has size)

          module _ (parts : slice_index bytes 20 ≡ 1) where
            pub at_hosts : Passes disk long bytes 6
            at_hosts = one_more disk long bytes WrongParts at_parts (λ has. has parts)

            module _ (hosts : IsHostCount (header_in bytes).geometry.hosts) where
              pub at_writes : Passes disk long bytes 7
              at_writes = one_more disk long bytes WrongHosts at_hosts (λ has. has hosts)

              module _ (writes : slice_index bytes 22 ≤ 1) where
                pub at_rest : Passes disk long bytes 8
                at_rest = one_more disk long bytes WrongWrites at_writes (λ has. absurd (omega (arith, has, writes)))

                pub at_room : drop 23 bytes ≡ zeros (4096 - 23) → Passes disk long bytes 9
                at_room rest = one_more disk long bytes WrongRest at_rest (λ has. has rest)
