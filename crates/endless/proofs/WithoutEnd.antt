-- Each epoch is a run, and the runs go on from one another.
use Rattle.std.proofs.Common.{ℕ, zero, suc, ◌≡◌, ◌<◌, ◌≤◌, Some, List, [], ◌∷◌, ◌++◌, length, map, refl, sym, ◌∙◌, ap, subst}
use Rattle.disk.specs.Disk.{Call, Answer}
use Rattle.lock_command.specs.declared.command.Command.{Command}
use Rattle.lock_table.specs.Apply.{table_after}
use Rattle.lock_table.specs.Picture.{Shown, IsPictureOf}
use Rattle.paxos_block.specs.Shape.{Shape}
use Rattle.host.specs.Host.{learned_of}
use Rattle.world.specs.Entry.{Filled, Start, Stop, Begin, Called, Torn, Crashed, Lost, Migrated}
use Rattle.world.specs.Chosen.{at, migrated}
use Rattle.world.specs.Headline.{prefix_at}
use Rattle.at_once.specs.AtOnce.{AreDeeds, IsDeed, bare, IsRunOf}
use Rattle.epochs.specs.Acts.{Act}
use Rattle.epochs.proofs.OneLog.{epochs_are_runs}
use Rattle.endless.specs.Epochs.{IsCallAt, IsEndless, carried_by, HasGoneOn}
use Rattle.endless.proofs.Going.{epochs_go_on}
use Rattle.endless.specs.WithoutEnd.{host_by, learned_by, IsWithoutEnd, OneLogWithoutEnd}

-- a deed is no migration
not_bare : (x : Filled) → IsDeed x → (disks : ℕ) (log : List Command) → bare x ≡ Migrated disks log → ⊥
not_bare (Start h) deed disks log is = cc
not_bare (Stop h) deed disks log is = cc
not_bare (Begin h task) deed disks log is = cc
not_bare (Called h k call answer left) deed disks log is = cc
not_bare (Torn h k call left) deed disks log is = cc
not_bare (Crashed k left) deed disks log is = cc
not_bare (Lost k) deed disks log is = cc
not_bare (Migrated d l) deed disks log is = absurd deed

pub none_migrated : (run log : List Filled) → map bare run ≡ map bare log → AreDeeds log → migrated run ≡ []
none_migrated [] log same deeds = refl
none_migrated (Start h ∷ run) log same deeds = refl
none_migrated (Stop h ∷ run) log same deeds = refl
none_migrated (Begin h task ∷ run) log same deeds = refl
none_migrated (Called h k call answer left ∷ run) log same deeds = refl
none_migrated (Torn h k call left ∷ run) log same deeds = refl
none_migrated (Crashed k left ∷ run) log same deeds = refl
none_migrated (Lost k ∷ run) log same deeds = refl
none_migrated (Migrated disks commands ∷ run) [] same deeds = absurd (cc)
none_migrated (Migrated disks commands ∷ run) (x ∷ log) same deeds = let one : Migrated disks commands ≡ bare x = cc in absurd (not_bare x deeds.0 disks commands (sym one))

-- a call of the run is one of the list
bare_call : (h disk : ℕ) (call : Call) (answer : Answer) (x : Filled) → Called h disk call answer [] ≡ bare x → (left : List ℕ) × (x ≡ Called h disk call answer left)
bare_call h disk call answer (Called g d call_ answer_ left) is =
    (left, (let one : h ≡ g = cc in let two : disk ≡ d = cc in let three : call ≡ call_ = cc in let four : answer ≡ answer_ = cc in λ i. Called (sym one i) (sym two i) (sym three i) (sym four i) left))
bare_call h disk call answer (Start g) is = absurd (cc)
bare_call h disk call answer (Stop g) is = absurd (cc)
bare_call h disk call answer (Begin g task) is = absurd (cc)
bare_call h disk call answer (Torn g d call_ left) is = absurd (cc)
bare_call h disk call answer (Crashed d left) is = absurd (cc)
bare_call h disk call answer (Lost d) is = absurd (cc)
bare_call h disk call answer (Migrated d log) is = absurd (cc)

pub same_call : (run log : List Filled) → map bare run ≡ map bare log → (i h : ℕ) → IsCallAt run i h → IsCallAt log i h
same_call [] log same i h called = absurd (let none = called.4 in cc)
same_call (e ∷ run) [] same i h called = absurd (cc)
same_call (e ∷ run) (x ∷ log) same zero h called =
    let here : e ≡ Called h called.0 called.1 called.2 called.3 = (let some = called.4 in cc) in
    let both : bare e ≡ bare x = cc in
    let found = bare_call h called.0 called.1 called.2 x (sym (ap bare here) ∙ both) in
    (called.0, called.1, called.2, found.0, ap (λ (y : Filled). Some y) found.1)
same_call (e ∷ run) (x ∷ log) same (suc i) h called = let rest : map bare run ≡ map bare log = cc in same_call run log rest i h called

module _ (c : Shape) (size : ℕ) (acts : ℕ → List Act) (logs : ℕ → List Filled) (last : ℕ) (shown : ℕ → Shown) (is : IsWithoutEnd c size acts logs last shown) where
  abbrev of : (e : ℕ) → IsRunOf c (logs e)
  of e = epochs_are_runs c size acts logs is.shared e

  -- what a host has learned in the run it has learned by its deeds
  same_host : (e i h : ℕ) → (at c (of e).run i).host h ≡ host_by c (logs e) i h
  same_host e i h = (of e).hosts i h

  same_learned : (e i h : ℕ) → prefix_at c (of e).run i h ≡ learned_by c (logs e) i h
  same_learned e i h = ap learned_of (same_host e i h)

  endless : IsEndless c last (λ e. (of e).run) shown
  endless =
      record {
        is_run = λ e. (of e).is;
        fresh = λ e. none_migrated (of e).run (logs e) (of e).same (is.shared.deeds e);
        place = is.place;
        host = is.host;
        full = λ e less. ap (λ (l : List Command). length l) (same_learned e (is.place e) (is.host e)) ∙ is.full e less;
        pictured = λ e less. subst (λ (l : List Command). IsPictureOf (shown e) (table_after l)) (sym (same_learned e (is.place e) (is.host e))) (is.pictured e less);
        fits = is.fits;
        carries = λ e less i h memory doing command wanted called runs. is.carries e less i h memory doing command wanted (same_call (of (suc e)).run (logs (suc e)) (of (suc e)).same i h called) (sym (same_host (suc e) i h) ∙ runs);
      }

  gone : (later : ℕ → List Command)
      × ((e : ℕ) → e < last → learned_by c (logs e) (is.place e) (is.host e) ≡ carried_by shown e ++ later e)
      × ((e i h : ℕ) → e ≤ last → length (carried_by shown e) ≤ length (learned_by c (logs e) i h) → HasGoneOn later shown e (learned_by c (logs e) i h))
  unfolding endless
  gone =
      let all = epochs_go_on c last (λ e. (of e).run) shown endless in (
        all.0,
        λ e less. sym (same_learned e (is.place e) (is.host e)) ∙ all.1 e less,
        λ e i h reached fits.
            let same = same_learned e i h in
            subst (λ (l : List Command). length (carried_by shown e) ≤ length l → HasGoneOn all.0 shown e l) same (all.2 e i h reached) fits,
      )

pub one_log_without_end : OneLogWithoutEnd
one_log_without_end c size acts logs last shown is = gone c size acts logs last shown is
