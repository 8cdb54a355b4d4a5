-- The command at a place of the log.
use Rattle.std.proofs.Common.{◌≡◌, ◌+◌, ◌-◌, ◌<◌, ◌≤◌, ◌++◌, ◌∙◌, ℕ, zero, suc, List, [], ◌∷◌, None, length, ap, arith, refl}
use Rattle.std.proofs.lemmas.Bool.{cond_above, cond_below}
use Rattle.std.specs.Prelude.{slice_get}
use Rattle.lock_command.specs.declared.command.Command.{Command}
use Rattle.session.specs.Places.{command_at}
use Rattle.session.specs.declared.learned.Learned.{Learned}

get_before : (xs ys : List Command) (i : ℕ) → i < length xs → slice_get xs i ≡ slice_get (xs ++ ys) i
get_before [] ys i within = absurd (omega (arith, within))
get_before (x ∷ xs) ys zero within = refl
get_before (x ∷ xs) ys (suc i) within = get_before xs ys i (omega (arith, within))

get_behind : (xs ys : List Command) (i : ℕ) → slice_get ys i ≡ slice_get (xs ++ ys) (length xs + i)
get_behind [] ys i = ap (slice_get ys) (let same : i ≡ 0 + i = omega arith in same)
get_behind (x ∷ xs) ys i = get_behind xs ys i ∙ ap (slice_get (x ∷ xs ++ ys)) (let same : suc (length xs + i) ≡ length (x ∷ xs) + i = omega arith in same)

-- below the first place nothing is known
pub not_known : (l : Learned) (place : ℕ) → place < l.first → None ≡ command_at l place
unfolding command_at
not_known l place below = cond_below place l.first None _ below

-- in the epoch before the newest one
pub in_before : (l : Learned) (place : ℕ) → l.first ≤ place → place - l.first < length l.before.now
    → slice_get l.before.now (place - l.first) ≡ command_at l place
unfolding command_at
in_before l place above within =
    cond_above place l.first None _ _ above (get_before l.before.now l.log.now (place - l.first) within)

-- in what was learned behind that
pub in_log : (l : Learned) (place : ℕ) → l.first ≤ place → length l.before.now ≤ place - l.first
    → slice_get l.log.now (place - l.first - length l.before.now) ≡ command_at l place
unfolding command_at
in_log l place above behind =
    let i = place - l.first - length l.before.now in
    let same : length l.before.now + i ≡ place - l.first = omega arith in
    cond_above place l.first None _ _ above (get_behind l.before.now l.log.now i ∙ ap (slice_get (l.before.now ++ l.log.now)) same)
