-- What is kept of a migration, answer by answer.
use Rattle.std.specs.Prelude.{slice_get, if◌then◌else◌}
use Rattle.std.proofs.Common.{ℕ, zero, suc, ◌+◌, ◌-◌, ◌≤◌, ◌<◌, ◌≡◌, ◌==◌, inl, inr, Bool, true, false, Option, Some, None, List, [], ◌∷◌, ◌++◌, length, length-drop, map, take, drop, replicate, append_assoc, refl, sym, subst, ap, ◌∙◌, arith}
use Rattle.std.proofs.lemmas.List.{take_all, get_or-set_same, get_or-set_other}
use Rattle.std.proofs.lemmas.Bool.{cases_eq, cond-true, cond-false, eq-eqb, ne_eqb}
use Rattle.std.proofs.Math.ListN.{set}
use Rattle.attempt.specs.Answers.{heard_as}
use Rattle.attempt.specs.Heard.{Fits}
use Rattle.disk.specs.Disk.{Call, Write, Answer, Booted, Told, Done, Fault}
use Rattle.disk.specs.declared.boot.Boot.{Boot}
use Rattle.torn_block.specs.Layout.{cluster_version}
use Rattle.paxos_block.specs.Headers.{header_saying}
use Rattle.paxos_block.specs.Places.{place_of, VoteOf}
use Rattle.attempt.specs.DeviceCalls.{heard_of}
use Rattle.attempt.specs.declared.heard.Heard as code_heard
use Rattle.attempt.specs.declared.heard.Heard.TheVariants as answer
use Rattle.migration.specs.Heard.{Progress, at_first, with_boot, given_up, answered, hears, heard, next_in, next}
use Rattle.migration.specs.History.{IsHistory, IsAnswerTo}
use Rattle.paxos_block.specs.Image.{Setup, header_of, block_for}
use Rattle.migration.specs.Kept.{setup_of, left_from, left_here, gates_later, fills_later, left_later, left_by, has_failed, boot_in, going_on, progress_of, HasBytes, IsSound, kind_at, call_due, device_answer, end_in, end_by, LeadsTo}
use Rattle.migration.proofs.Lengths.{length-header}
use Rattle.migration.specs.Plan.{Put, Kind, Attaching, Putting, Syncing, Opening, Due, on, blocks_from, header_calls, fills, heading, opens, filling, opening, each, schedule, call_of}
use Rattle.migration.specs.declared.end.End.{End}
use Rattle.migration.specs.declared.end.End.TheVariants.{Migrated, MigrationFailed}
use Rattle.migration.specs.declared.notes.Notes.{Notes}
use Rattle.migration.specs.declared.notes.Stage as stages
use Rattle.migration.specs.declared.notes.Stage.TheVariants as stage

-- at a stage, while it goes on
pub stands_at : (n : Notes) (at : stages.Stage) → n.end ≡ None → n.stage ≡ at → progress_of n ≡ going_on n (on n.disk (left_here at n) ++ left_later at n)
stands_at n at going is =
    ap (λ (e : Option End). record { rest = left_by e n; boot = boot_in n.boots; failed = has_failed e }) going
    ∙ ap (λ (x : stages.Stage). going_on n (on n.disk (left_here x n) ++ left_later x n)) is

-- the call that is left first has succeeded
pub succeeds_at : (n : Notes) (at : stages.Stage) (due : Due) (rest : List Due) → n.end ≡ None → n.stage ≡ at → on n.disk (left_here at n) ++ left_later at n ≡ due ∷ rest → hears (progress_of n) Done ≡ going_on n rest
succeeds_at n at due rest going is left = ap (λ (p : Progress). hears p Done) (stands_at n at going is ∙ ap (going_on n) left)

-- THE BLOCKS OF A DISK

-- some call is left on it
some_left_from : (n : Notes) (slot : ℕ) (log : List (List ℕ)) → (kind : Kind) × (kinds : List Kind) × (map Putting (blocks_from slot log) ++ Syncing ∷ header_calls (setup_of n) n.disk ≡ kind ∷ kinds)
some_left_from n slot [] = (Syncing, header_calls (setup_of n) n.disk, refl)
some_left_from n slot (value ∷ log) = (Putting (place_of cluster_version (VoteOf slot 0), block_for value), map Putting (blocks_from (suc slot) log) ++ Syncing ∷ header_calls (setup_of n) n.disk, refl)

some_left : (n : Notes) (at : stages.Stage) → (kind : Kind) × (kinds : List Kind) × (left_here at n ≡ kind ∷ kinds)
some_left n stage.Attaching = (Attaching, left_from n 0, refl)
some_left n stage.PuttingBlock = some_left_from n n.slot (drop n.slot n.log.items)
some_left n stage.SyncingBlocks = (Syncing, header_calls (setup_of n) n.disk, refl)
some_left n stage.PuttingHeader = (Putting (heading (setup_of n) n.disk), Syncing ∷ [], refl)
some_left n stage.SyncingHeader = (Syncing, [], refl)
some_left n stage.OpeningGate = (Opening, Syncing ∷ [], refl)
some_left n stage.SyncingGate = (Syncing, [], refl)

drop_found : (log : List (List ℕ)) (k : ℕ) (value : List ℕ) → slice_get log k ≡ Some value → drop k log ≡ value ∷ drop (k + 1) log
drop_found [] k value is = absurd (cc)
drop_found (first ∷ log) zero value is = let same : first ≡ value = cc in ap (λ (v : List ℕ). v ∷ log) same
drop_found (first ∷ log) (suc k) value is = let more : suc k + 1 ≡ suc (k + 1) = omega arith in drop_found log k value is ∙ ap (λ (j : ℕ). value ∷ drop j (first ∷ log)) (sym more)

-- what is left from a slot on begins with its block
pub block_left : (n : Notes) (slot : ℕ) (value : List ℕ) → slice_get n.log.items slot ≡ Some value
    → left_from n slot ≡ Putting (place_of cluster_version (VoteOf slot 0), block_for value) ∷ left_from n (slot + 1)
block_left n slot value is =
    let rest = Syncing ∷ header_calls (setup_of n) n.disk in
    let next : suc slot ≡ slot + 1 = omega arith in
    ap (λ (l : List (List ℕ)). map Putting (blocks_from slot l) ++ rest) (drop_found n.log.items slot value is)
    ∙ ap (λ (k : ℕ). Putting (place_of cluster_version (VoteOf slot 0), block_for value) ∷ (map Putting (blocks_from k (drop (slot + 1) n.log.items)) ++ rest)) next

-- THE NEXT DISK

module _ (f : ℕ → List Due) where
  each_more : (d disks : ℕ) → d + 1 < disks → each f (d + 1) (disks - (d + 1)) ≡ f (d + 1) ++ each f (d + 1 + 1) (disks - (d + 1 + 1))
  each_more d disks more =
      let left : disks - (d + 1) ≡ suc (disks - (d + 1 + 1)) = omega arith in
      let next : suc (d + 1) ≡ d + 1 + 1 = omega arith in
      ap (each f (d + 1)) left ∙ ap (λ (k : ℕ). f (d + 1) ++ each f k (disks - (d + 1 + 1))) next

  each_none : (d disks : ℕ) → disks ≤ d + 1 → each f (d + 1) (disks - (d + 1)) ≡ []
  each_none d disks last = let left : disks - (d + 1) ≡ 0 = omega arith in ap (each f (d + 1)) left

  each_first : (disks : ℕ) → 1 ≤ disks → each f 0 disks ≡ f 0 ++ each f 1 (disks - 1)
  each_first disks some = let all : disks ≡ suc (disks - 1) = omega arith in ap (each f 0) all

module _ (n : Notes) where
  abbrev d : ℕ
  d = n.disk

  abbrev disks : ℕ
  disks = n.config.disks

  pub next_filled : d + 1 < disks → fills_later n ≡ on (d + 1) (Attaching ∷ fills (setup_of n) (d + 1)) ++ (each (filling (setup_of n)) (d + 1 + 1) (disks - (d + 1 + 1)) ++ each opening 0 disks)
  next_filled more =
      ap (λ (l : List Due). l ++ each opening 0 disks) (each_more (filling (setup_of n)) d disks more)
      ∙ append_assoc (filling (setup_of n) (d + 1)) (each (filling (setup_of n)) (d + 1 + 1) (disks - (d + 1 + 1))) (each opening 0 disks)

  pub next_opened : d + 1 < disks → gates_later n ≡ on (d + 1) opens ++ each opening (d + 1 + 1) (disks - (d + 1 + 1))
  next_opened more = each_more opening d disks more

  pub none_opened : disks ≤ d + 1 → gates_later n ≡ []
  none_opened last = each_none opening d disks last

-- A DISK IS LEFT

pub fills_next : (n : Notes) → n.end ≡ None → n.stage ≡ stage.SyncingHeader → n.disk + 1 < n.config.disks
    → progress_of (record n { disk = n.disk + 1; stage = stage.Attaching }) ≡ hears (progress_of n) Done
fills_next n going is more =
    let new = record n { disk = n.disk + 1; stage = stage.Attaching } in
    stands_at new stage.Attaching going refl
    ∙ ap (going_on n) (sym (next_filled n more))
    ∙ sym (succeeds_at n stage.SyncingHeader (record { disk = n.disk; kind = Syncing }) (fills_later n) going is refl)

pub opens_next : (n : Notes) → n.end ≡ None → n.stage ≡ stage.SyncingGate → n.disk + 1 < n.config.disks
    → progress_of (record n { disk = n.disk + 1; stage = stage.OpeningGate }) ≡ hears (progress_of n) Done
opens_next n going is more =
    let new = record n { disk = n.disk + 1; stage = stage.OpeningGate } in
    stands_at new stage.OpeningGate going refl
    ∙ ap (going_on n) (sym (next_opened n more))
    ∙ sym (succeeds_at n stage.SyncingGate (record { disk = n.disk; kind = Syncing }) (gates_later n) going is refl)

-- the block of a slot is put
pub puts_next : (n : Notes) → n.end ≡ None → n.stage ≡ stage.PuttingBlock → HasBytes n.stage n → hears (progress_of n) Done ≡ going_on n (on n.disk (left_from n (n.slot + 1)) ++ fills_later n)
puts_next n going is bytes =
    let (value, found, block) = subst (λ (at : stages.Stage). HasBytes at n) is bytes in
    succeeds_at n stage.PuttingBlock (record { disk = n.disk; kind = Putting (place_of cluster_version (VoteOf n.slot 0), block_for value) }) (on n.disk (left_from n (n.slot + 1)) ++ fills_later n) going is
    (ap (λ (l : List Kind). on n.disk l ++ fills_later n) (block_left n n.slot value found))

-- BOOT NUMBERS

boot_at : (boots : List Boot) (d : ℕ) (boot : Boot) → d < length boots → (e : ℕ) → boot_in (set boots d boot) e ≡ with_boot (boot_in boots) d (Booted boot.number) e
boot_at boots d boot within e = elim (cases_eq e d) [
  | inl same ↦
      let none : Boot = record { number = 0 } in
      ap (λ (k : ℕ). boot_in (set boots d boot) k) same ∙ ap (λ (b : Boot). b.number) (get_or-set_same boots d boot none within) ∙ sym (cond-true (e == d) boot.number (boot_in boots e) (eq-eqb e d same))
  | inr other ↦
      let none : Boot = record { number = 0 } in
      ap (λ (b : Boot). b.number) (get_or-set_other boots d e boot none other) ∙ sym (cond-false (e == d) boot.number (boot_in boots e) (ne_eqb e d other))
]

-- THE CALL THAT IS DUE

header_due : (n : Notes) → n.header ≡ header_saying cluster_version (header_of (setup_of n) n.disk) → heading (setup_of n) n.disk ≡ (1, drop 1 n.header)
header_due n is = ap (λ (l : List ℕ). let put : Put = (1, drop 1 l) in put) (sym is)

-- the bytes behind the gate, as the code cuts them out
pub header_call : (n : Notes) (d : ℕ) → d ≡ n.disk → n.stage ≡ stage.PuttingHeader → HasBytes n.stage n → ◌≡◌ {A = ℕ × Call} (n.disk, Write (boot_in n.boots d) 1 (take 1023 (drop 1 n.header))) (call_due n)
header_call n d same is bytes =
    let spelled : n.header ≡ header_saying cluster_version (header_of (setup_of n) n.disk) = subst (λ (at : stages.Stage). HasBytes at n) is bytes in
    let long : length (drop 1 n.header) ≤ 1023 = omega (arith, length-drop 1 n.header, ap length spelled, length-header (header_of (setup_of n) n.disk)) in
    ap (λ (e : ℕ). (n.disk, Write (boot_in n.boots e) 1 (take 1023 (drop 1 n.header)))) same
    ∙ ap (λ (l : List ℕ). (n.disk, Write (boot_in n.boots n.disk) 1 l)) (take_all 1023 (drop 1 n.header) long)
    ∙ ap (λ (at : stages.Stage). (n.disk, call_of (boot_in n.boots n.disk) (kind_at at n))) (sym is)

pub next_at : (n : Notes) (at : stages.Stage) → n.end ≡ None → n.stage ≡ at → HasBytes at n → next (progress_of n) ≡ Some (n.disk, call_of (boot_in n.boots n.disk) (kind_at at n))
next_at n stage.Attaching going is bytes = ap next (stands_at n stage.Attaching going is)
next_at n stage.PuttingBlock going is (value, found, block) =
    ap next (stands_at n stage.PuttingBlock going is ∙ ap (λ (l : List Kind). going_on n (on n.disk l ++ fills_later n)) (block_left n n.slot value found))
    ∙ ap (λ (l : List ℕ). Some (n.disk, Write (boot_in n.boots n.disk) (place_of cluster_version (VoteOf n.slot 0)) l)) (sym block)
next_at n stage.SyncingBlocks going is bytes = ap next (stands_at n stage.SyncingBlocks going is)
next_at n stage.PuttingHeader going is bytes =
    ap next (stands_at n stage.PuttingHeader going is) ∙ ap (λ (put : Put). Some (n.disk, call_of (boot_in n.boots n.disk) (Putting put))) (header_due n bytes)
next_at n stage.SyncingHeader going is bytes = ap next (stands_at n stage.SyncingHeader going is)
next_at n stage.OpeningGate going is bytes = ap next (stands_at n stage.OpeningGate going is)
next_at n stage.SyncingGate going is bytes = ap next (stands_at n stage.SyncingGate going is)

pub next_due : (n : Notes) → IsSound n → n.end ≡ None → next (progress_of n) ≡ Some (call_due n)
next_due n sound going = next_at n n.stage going refl sound.bytes

-- THE END

pub end_is : (n : Notes) (e : Option End) → n.end ≡ e → end_by (progress_of n) ≡ e
end_is n (Some Migrated) is = ap (λ (e : Option End). end_by (record { rest = left_by e n; boot = boot_in n.boots; failed = has_failed e })) is
end_is n (Some MigrationFailed) is = ap (λ (e : Option End). end_by (record { rest = left_by e n; boot = boot_in n.boots; failed = has_failed e })) is
end_is n None is =
    let (kind, kinds, some) = some_left n n.stage in
    ap (λ (e : Option End). end_by (record { rest = left_by e n; boot = boot_in n.boots; failed = has_failed e })) is
    ∙ ap (λ (l : List Kind). end_in (on n.disk l ++ left_later n.stage n)) some

-- HISTORIES

pub heard-append : (p : Progress) (early : List Answer) (answer : Answer) → heard p (early ++ answer ∷ []) ≡ hears (heard p early) answer
heard-append p [] answer = refl
heard-append p (first ∷ early) answer = heard-append (hears p first) early answer

history_more : (p : Progress) (early : List Answer) (answer : Answer) → IsHistory p early → IsAnswerTo (next (heard p early)) answer → IsHistory p (early ++ answer ∷ [])
history_more p [] answer is fits = (fits, tt)
history_more p (first ∷ early) answer is fits = (is.0, history_more (hears p first) early answer is.1 fits)

-- a good answer uses one of the calls that are left, and after a fault there is no answer
some_next : (p : Progress) (answer : Answer) → IsAnswerTo (next p) answer → (due : Due) × (rest : List Due) × (p.rest ≡ due ∷ rest)
some_next p answer fits = go p.failed p.rest refl fits
  where
    go : (b : Bool) (l : List Due) → p.rest ≡ l → IsAnswerTo (if b then None else next_in p l) answer → (due : Due) × (rest : List Due) × (p.rest ≡ due ∷ rest)
    go true l is fits = absurd fits
    go false [] is fits = absurd fits
    go false (due ∷ rest) is fits = (due, rest, is)

none_behind : (p : Progress) (answers : List Answer) → IsHistory (given_up p) answers → length answers ≡ 0
none_behind p [] is = refl
none_behind p (answer ∷ answers) is = absurd is.0

one_less : (p : Progress) (answer : Answer) (due : Due) (rest : List Due) → p.rest ≡ due ∷ rest → (answered p p.rest answer).rest ≡ rest
one_less p answer due rest is = ap (λ (l : List Due). (answered p l answer).rest) is

pub bounded : (p : Progress) (answers : List Answer) → IsHistory p answers → length answers ≤ length p.rest
bounded p [] is = omega arith
bounded p (Fault fault ∷ answers) is =
    let (due, rest, some) = some_next p (Fault fault) is.0 in
    let none = none_behind p answers is.1 in
    omega (arith, none, ap length some)
bounded p (Booted boot ∷ answers) is =
    let (due, rest, some) = some_next p (Booted boot) is.0 in
    omega (arith, bounded (hears p (Booted boot)) answers is.1, ap length some, ap length (one_less p (Booted boot) due rest some))
bounded p (Told bytes ∷ answers) is =
    let (due, rest, some) = some_next p (Told bytes) is.0 in
    omega (arith, bounded (hears p (Told bytes)) answers is.1, ap length some, ap length (one_less p (Told bytes) due rest some))
bounded p (Done ∷ answers) is =
    let (due, rest, some) = some_next p Done is.0 in
    omega (arith, bounded (hears p Done) answers is.1, ap length some, ap length (one_less p Done due rest some))

-- an answer as the code has it
answer_fits : (call : Call) (x : code_heard.Heard (List ℕ)) → Fits call (heard_of cluster_version x) → Fits call (heard_as (device_answer x))
answer_fits call (answer.Booted boot) fits = fits
answer_fits call answer.Done fits = fits
answer_fits call (answer.Told bytes) fits = fits
answer_fits call (answer.Fault fault) fits = fits

-- one answer more leads on
pub leads_on : (s : Setup) (answers : List Answer) (old new : Notes) (x : code_heard.Heard (List ℕ)) → IsSound old → old.end ≡ None → setup_of new ≡ setup_of old → Fits (call_due old).1 (heard_of cluster_version x) → progress_of new ≡ hears (progress_of old) (device_answer x)
    → LeadsTo s answers old → LeadsTo s (answers ++ device_answer x ∷ []) new
leads_on s answers old new x sound going same fits goes leads =
    let next_is : next (heard (at_first s) answers) ≡ Some (call_due old) = ap next (sym leads.progress) ∙ next_due old sound going in
    record {
      of = same ∙ leads.of;
      history = history_more (at_first s) answers (device_answer x) leads.history (subst (λ (o : Option (ℕ × Call)). IsAnswerTo o (device_answer x)) (sym next_is) (answer_fits (call_due old).1 x fits));
      progress = goes ∙ ap (λ (p : Progress). hears p (device_answer x)) leads.progress ∙ sym (heard-append (at_first s) answers (device_answer x));
    }

-- NOTHING IS HEARD YET

none_booted : (n d : ℕ) → boot_in (replicate n (record { number = 0 })) d ≡ 0
none_booted zero d = refl
none_booted (suc n) zero = refl
none_booted (suc n) (suc d) = none_booted n d

pub first_is : (n : Notes) → n.end ≡ None → n.stage ≡ stage.Attaching → n.disk ≡ 0 → n.boots ≡ replicate 7 (record { number = 0 }) → 1 ≤ n.config.disks → progress_of n ≡ at_first (setup_of n)
first_is n going is first boots some =
    let s = setup_of n in
    let gates = each opening 0 n.config.disks in
    let calls : on n.disk (left_here stage.Attaching n) ++ fills_later n ≡ schedule s =
    ap (λ (d : ℕ). on d (Attaching ∷ (map Putting (blocks_from 0 s.log) ++ Syncing ∷ header_calls s d)) ++ (each (filling s) (d + 1) (n.config.disks - (d + 1)) ++ gates)) first
    ∙ sym (append_assoc (filling s 0) (each (filling s) 1 (n.config.disks - 1)) gates)
    ∙ ap (λ (l : List Due). l ++ gates) (sym (each_first (filling s) n.config.disks some)) in
    let numbers : (d : ℕ) → boot_in n.boots d ≡ 0 = λ d. ap (λ (l : List Boot). boot_in l d) boots ∙ none_booted 7 d in
    stands_at n stage.Attaching going is ∙ (λ i. record { rest = calls i; boot = λ d. (numbers d) i; failed = false })
