-- Hosts write behind headers, and a new image has its own. So each image's header says from which epoch on it takes part.
use Rattle.std.specs.Prelude.{slice_index, slice_index_or}
use Rattle.std.proofs.Common.{ℕ, zero, suc, ◌≡◌, ◌==◌, ◌+◌, ◌≤◌, ◌<◌, ◌⊎◌, Bool, true, false, cond, List, [], ◌∷◌, ◌++◌, length, get_or, take, drop, replicate, refl, sym, ◌∙◌, ap, subst, arith}
use Rattle.std.proofs.lemmas.Bool.{eqb-true}
use Rattle.std.proofs.lemmas.List.{ext_get_or, get_or-take, get_or-replicate, length-take-le}
use Rattle.disk.specs.declared.fault.DiskFault.TheVariants.{Failed}
use Rattle.disk.specs.Disk.{DiskState, Call, Attach, Read, Write, Sync, Answer, Told, Fault, Step, KeepsSynced, written, synced}
use Rattle.disk.proofs.StepLemmas.{step_keeps}
use Rattle.torn_block.specs.declared.layout.TheConstants.{HEADER_LENGTH}
use Rattle.paxos_block.specs.Shape.{Shape}
use Rattle.standings.specs.Epochs.{epoch_of, base_of}
use Rattle.standings.specs.Reading.{moved}
use Rattle.endless_image.specs.Headers.{IsRight}
use Rattle.endless_image.specs.Sizes.{size_of}
use Rattle.endless_image.specs.declared.header.EndlessHeader.{EndlessHeader}
use Rattle.endless_image.proofs.HeaderLaws.{one_header}
use Rattle.world.specs.World.{Tears}
use Rattle.at_once.proofs.Headless.{Lies, IsThere, take_same}
use Rattle.epochs.proofs.Deeds.{model_leaves, power_leaves}
use Rattle.epoch_deeds.specs.Deeds.{Calls, CallsIn, Starts, Begins, Stops}
use Rattle.epoch_deeds.specs.Knowing.{image_of}
use Rattle.epoch_runs.specs.World.{Entry, Does, Breaks, BreaksIn, Ends, Crashes, Loses, Replaces, World, with_disk, after, Crashing, model_crashes, power_losses, MayFollow}
use Rattle.epochs_at_once.specs.Images.{slots_of, AllReadBehind}
use Rattle.epochs_at_once.proofs.Behind.{CallsBehind}
use Rattle.in_place.specs.Replacing.{new_header}
use Rattle.in_place.specs.declared.replace_image.NewImage.{NewImage}
use Rattle.in_place.specs.declared.replace_epoch.EpochsTold.{EpochsTold}
use Rattle.replacing.specs.ByTool.{IsReplacedByTool, IsReadFrom}
use Rattle.replacing.specs.Folders.{used_world, put_world, ComesOn, opens, goes, puts}
use Rattle.replacing.specs.Headers.{HasHeader, AllSay, AreOfSet, HeadersSay, HeadersTell}
use Rattle.replacing.specs.Laws.{IsOther}
use Rattle.replacing.proofs.Folders.{lies, torn_lies, behind_so, on_used, model_used, power_used}
use Rattle.replacing.proofs.Going.{new_put}
use Rattle.replacing.proofs.Put.{IsPutOn}

-- LISTS

take_put : {A : Type 0} (h at : ℕ) (old items rest : List A) → h ≤ at → at ≤ length old → take h (take at old ++ items ++ rest) ≡ take h old
take_put zero at old items rest low fits = refl
take_put (suc h) zero old items rest low fits = absurd (omega (arith, low))
take_put (suc h) (suc at) [] items rest low fits = absurd (omega (arith, fits))
take_put {A} (suc h) (suc at) (y ∷ old) items rest low fits = ap (λ (l : List A). y ∷ l) (take_put h at old items rest (omega (arith, low)) (omega (arith, fits)))

-- what is synced in the first places stays there
take_kept : (h : ℕ) (flags : List Bool) (old new : List ℕ) → h ≤ length flags → h ≤ length old → h ≤ length new → take h flags ≡ replicate h false → ((k : ℕ) → slice_index_or flags k false ≡ false → slice_index new k ≡ slice_index old k)
    → take h new ≡ take h old
take_kept h flags old new flags_fit old_fit new_fit all same =
    let new_long = length-take-le h new new_fit in
    let old_long = length-take-le h old old_fit in
    ext_get_or 0 (take h new) (take h old) (new_long ∙ sym old_long)
    (λ k within.
    let less : k < h = omega (arith, within, new_long) in
    let flag : get_or flags k false ≡ false = sym (get_or-take h flags k false less) ∙ ap (λ (l : List Bool). get_or l k false) all ∙ get_or-replicate h k false false less in
    get_or-take h new k 0 less ∙ same k flag ∙ sym (get_or-take h old k 0 less))

-- ONE IMAGE

module _ (c : Shape) (header : EndlessHeader) where
  abbrev Says : DiskState → Type 0
  Says image = HasHeader header image

  abbrev Has : DiskState → Type 0
  Has image = IsThere (slots_of c) image

  says_synced : (image : DiskState) → Has image → Says image → Says (synced image)
  says_synced image has says = record { bytes = says.bytes; synced = take_same false HEADER_LENGTH (length image.bytes) (let long = has.0 in omega (arith, long)) }

  says_written : (image : DiskState) (at : ℕ) (from : List ℕ) → Has image → HEADER_LENGTH ≤ at → at ≤ length image.bytes → at ≤ length image.unsynced → Says image → Says (written image at from)
  says_written image at from has behind fits flags says =
      record {
        bytes = take_put HEADER_LENGTH at image.bytes from (drop (at + length from) image.bytes) behind fits ∙ says.bytes;
        synced =
            take_put HEADER_LENGTH at image.unsynced (replicate (length from) true) (drop (at + length (replicate (length from) true)) image.unsynced) behind flags
            ∙ says.synced;
      }

  written_behind : (call : Call) (image : DiskState) (boot at : ℕ) (from left : List ℕ) → Has image → Lies (slots_of c) call → call ≡ Write boot at from → Says image → Says (written image at left)
  written_behind call image boot at from left has behind is says =
      let there : Lies (slots_of c) (Write boot at from) = subst (Lies (slots_of c)) is behind in
      let low = there.0 in
      let high = there.1 in
      let long = has.0 in
      let flags = has.1 in
      says_written image at left has low (omega (arith, high, long)) (omega (arith, high, flags)) says

  says_after : (call : Call) (answer : Answer) (old new : DiskState) → Has old → Lies (slots_of c) call → Step old call answer new → Says old → Says new
  says_after call answer old new has behind step says =
      step_keeps Says old new call answer
      (record {
        writes = λ boot at from left is as_many. written_behind call old boot at from left has behind is says;
        syncs = says_synced old has says;
        stays = says;
      })
      step

  torn_step : (old new : DiskState) (call : Call) → Tears call old new → Step old call (Fault Failed) new
  torn_step old new Attach tears = absurd tears
  torn_step old new (Read boot at len) tears = absurd tears
  torn_step old new (Write boot at from) tears = (tears.0, tears.1, tears.2)
  torn_step old new (Sync boot) tears = absurd tears

  says_crashed : (old new : DiskState) → Has old → Has new → KeepsSynced old.unsynced old.bytes new.bytes → new.unsynced ≡ replicate (length old.bytes) false → Says old → Says new
  says_crashed old new has then keeps flat says =
      let long = has.0 in
      let flags = has.1 in
      let new_long = then.0 in
      record {
        bytes = take_kept HEADER_LENGTH old.unsynced old.bytes new.bytes (omega (arith, flags)) (omega (arith, long)) (omega (arith, new_long)) says.synced keeps.same ∙ says.bytes;
        synced = ap (λ (l : List Bool). take HEADER_LENGTH l) flat ∙ take_same false HEADER_LENGTH (length old.bytes) (omega (arith, long));
      }

-- ALL IMAGES

module _ (crashing : Crashing) (leaves : (old new : DiskState) → crashing.IsCrash old new → KeepsSynced old.unsynced old.bytes new.bytes × (new.unsynced ≡ replicate (length old.bytes) false) × ((new.boot ≡ old.boot + 1) ⊎ (new.boot ≡ old.boot)))
    (c : Shape) (crash : (old new : DiskState) → IsThere (slots_of c) old → crashing.IsCrash old new → IsThere (slots_of c) new) (cluster : ℕ) where
  module _ (v : World) (all : (k : ℕ) → IsThere (slots_of c) (v.disk k)) (say : AllSay c cluster v) where
    -- one disk changes
    with_one : (d : ℕ) (left : DiskState) → ((header : EndlessHeader) → HasHeader header (v.disk d) → HasHeader header left) → (k : ℕ) → k < c.disks → HasHeader (new_header k c cluster (v.first k)) (with_disk v.disk d left k)
    with_one d left then k inside = either (k == d) refl
      where
        either : (b : Bool) → (k == d) ≡ b → HasHeader (new_header k c cluster (v.first k)) (cond b left (v.disk k))
        either true same = then (new_header k c cluster (v.first k)) (subst (λ (j : ℕ). HasHeader (new_header k c cluster (v.first k)) (v.disk j)) (eqb-true k d same) (say k inside))
        either false other = say k inside

    stay : (entry : Entry) (left : DiskState) → IsOther entry → CallsBehind c entry → MayFollow crashing c v entry left → AllSay c cluster (after v entry left)
    stay (Does h (Calls d now)) left other behind m = with_one d left (λ header. says_after c header now.call now.answer (v.disk d) left (all d) (lies c now.call behind) m.2)
    stay (Does h (CallsIn e d now call heard)) left other behind m = with_one d left (λ header. says_after c header now.call now.answer (v.disk d) left (all d) (lies c now.call behind) m.2)
    stay (Does h (Starts e)) left other behind m = say
    stay (Does h (Begins e task)) left other behind m = say
    stay (Does h (Stops e)) left other behind m = say
    stay (Breaks h d call) left other behind m =
        with_one d left (λ header. says_after c header call (Fault Failed) (v.disk d) left (all d) (torn_lies c call (v.disk d) left m.4 behind) (torn_step c header (v.disk d) left call m.4))
    stay (BreaksIn e h d call) left other behind m =
        let there_call = moved (base_of (image_of c) (epoch_of e).area) call in
        with_one d left (λ header. says_after c header there_call (Fault Failed) (v.disk d) left (all d) (lies c there_call behind) (torn_step c header (v.disk d) left there_call m.3))
    stay (Ends h) left other behind m = say
    stay (Crashes d) left other behind m =
        let kept = leaves (v.disk d) left m.2 in
        with_one d left (λ header. says_crashed c header (v.disk d) left (all d) (crash (v.disk d) left (all d) m.2) kept.0 kept.1)
    stay (Loses d) left other behind m = with_one d left (λ header says. subst (HasHeader header) (sym m.2) (record { bytes = says.bytes; synced = says.synced }))
    stay (Replaces d first newest) left other behind m = absurd other

    put_says : (lost : ℕ) (image : NewImage) (new : DiskState) (did : IsReplacedByTool c (used_world c v) lost image new) (read : ℕ) (best : EpochsTold) → IsReadFrom did read best → did.cluster ≡ cluster → AllSay c cluster (put_world v lost image.header.first_epoch new)
    put_says lost image new did read best from same k inside = either (k == lost) refl
      where
        put : IsPutOn image new
        put = new_put c (used_world c v) lost image new did read best from

        first_is : image.header.first_epoch ≡ did.by.first
        first_is = ap (λ (h : EndlessHeader). h.first_epoch) did.by.header

        header_is : image.header ≡ new_header lost c cluster image.header.first_epoch
        header_is = did.by.header ∙ (λ i. new_header lost c (same i) (sym first_is i))

        own : HasHeader image.header new
        own =
            record {
              bytes = put.header;
              synced = ap (λ (l : List Bool). take HEADER_LENGTH l) put.synced ∙ take_same false HEADER_LENGTH (length new.bytes) (let long = put.room in omega (arith, long));
            }

        either : (b : Bool) → (k == lost) ≡ b → HasHeader (new_header k c cluster (cond b image.header.first_epoch (v.first k))) (cond b new (v.disk k))
        either true is =
            subst (λ (j : ℕ). HasHeader (new_header j c cluster image.header.first_epoch) new) (sym (eqb-true k lost is)) (subst (λ (h : EndlessHeader). HasHeader h new) header_is own)
        either false other = say k inside

module _ (crashing : Crashing) (leaves : (old new : DiskState) → crashing.IsCrash old new → KeepsSynced old.unsynced old.bytes new.bytes × (new.unsynced ≡ replicate (length old.bytes) false) × ((new.boot ≡ old.boot + 1) ⊎ (new.boot ≡ old.boot)))
    (c : Shape) (crash : (old new : DiskState) → IsThere (slots_of c) old → crashing.IsCrash old new → IsThere (slots_of c) new) (cluster : ℕ) (images : ℕ → DiskState)
    (there : (entries : List Entry) (v : World) → ComesOn crashing c images entries v → (k : ℕ) → IsThere (slots_of c) (v.disk k))
    (behind : (v : World) (entry : Entry) (left : DiskState) → MayFollow crashing c v entry left → AllReadBehind c (entry ∷ []) → CallsBehind c entry) (first : (k : ℕ) → k < c.disks → HasHeader (new_header k c cluster 0) (images k)) where
  all_say : (entries : List Entry) (v : World) (on : ComesOn crashing c images entries v) → AreOfSet cluster on → AllSay c cluster v
  all_say entries v (opens blank) of_set = first
  all_say entries v (goes before was on entry left other reads may) of_set =
      stay crashing leaves c crash cluster was (there before was on) (all_say before was on of_set) entry left other (behind was entry left may reads) may
  all_say entries v (puts before was on lost image new did read best from) of_set =
      put_says crashing leaves c crash cluster was (there before was on) (all_say before was on of_set.1) lost image new did read best from of_set.0

pub model_headers_say : HeadersSay model_crashes
model_headers_say c images cluster entries v on of_set first =
    all_say model_crashes model_leaves c (λ old new has crash. (model_used c old new has crash).1) cluster images (λ xs w it. (on_used c model_crashes (model_used c) (λ x may. may) images xs w it).1)
    (behind_so c model_crashes (model_used c) (λ x may. may)) first entries v on of_set

pub power_headers_say : HeadersSay power_losses
power_headers_say c images cluster entries v on of_set first =
    all_say power_losses power_leaves c (λ old new has crash. (power_used c old new has crash).1) cluster images (λ xs w it. (on_used c power_losses (power_used c) (λ x may. may) images xs w it).1)
    (behind_so c power_losses (power_used c) (λ x may. may)) first entries v on of_set

-- WHOEVER READS THEM

pub headers_tell : HeadersTell
headers_tell c cluster v k boot bytes left header say inside few slots fits last step right =
    let says = new_header k c cluster (v.first k) in
    let answer : Told bytes ≡ Told (take HEADER_LENGTH (v.disk k).bytes) = step.2.0 in
    let told : bytes ≡ take HEADER_LENGTH (v.disk k).bytes = cc in
    let also : IsRight k (size_of c.slots) bytes says =
    record { may_be = record { among = record { below = inside; few = few }; slots = slots; epoch = last }; fits = fits; named = refl; as_long = refl; spelled = told ∙ (say k inside).bytes } in
    ap (λ (h : EndlessHeader). h.first_epoch) (one_header k (size_of c.slots) bytes header says right also)
