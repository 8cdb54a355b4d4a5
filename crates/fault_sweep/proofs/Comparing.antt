-- Lists that are compared item by item, and tables that are folded anew.
use Rattle.std.specs.Prelude.{All}
use Rattle.std.proofs.Common.{ℕ, ◌+◌, ◌<◌, ◌≤◌, ◌≡◌, Some, List, [], ◌∷◌, ◌++◌, length, take, get_or, sym, ap, ◌∙◌, subst, arith}
use Rattle.std.proofs.lemmas.List.{take_more, take_all}
use Rattle.std.proofs.lemmas.List.Sums.{fold-append}
use Rattle.std.proofs.lemmas.List.Elements.{All-push}
use Rattle.std.proofs.lemmas.Option.{slice_get-get_or, slice_get_within, get_or_from_slice_get}
use Rattle.lock_command.specs.declared.command.Command.{Command}
use Rattle.lock_command.specs.declared.reply.Reply.{Reply}
use Rattle.lock_table.specs.Apply.{applied, table_after, no_locks}
use Rattle.host.specs.Host.{reply_after}
use Rattle.fault_sweep.specs.Judging.{RepliesAfter}

-- ITEM BY ITEM

module _ {X : Type 0} (a b : List X) (i : ℕ) (x y : X) (inside : i < length a) (many : length a ≡ length b) (is_x : x ≡ get_or a i x) (is_y : y ≡ get_or b i y) where
  -- one item more is the same
  pub one_same : take i a ≡ take i b → x ≡ y → take (i + 1) a ≡ take (i + 1) b
  one_same so_far same =
      take_more a i x inside ∙ ap (λ (z : X). take i a ++ z ∷ []) (sym is_x ∙ same) ∙ ap (λ (l : List X). l ++ y ∷ []) so_far
      ∙ ap (λ (z : X). take i b ++ z ∷ []) is_y ∙ sym (take_more b i y (omega (arith, inside, many)))

-- to the end
pub all_same : {X : Type 0} (a b : List X) (i : ℕ) → length a ≤ i → length a ≡ length b → take i a ≡ take i b → a ≡ b
all_same a b i past many so_far = sym (take_all i a past) ∙ so_far ∙ take_all i b (omega (arith, past, many))

-- A TABLE FOLDED ANEW

pub one_applied : (commands : List Command) (i : ℕ) (c : Command) → i < length commands → c ≡ get_or commands i c
    → table_after (take (i + 1) commands) ≡ (applied (table_after (take i commands)) c).table
one_applied commands i c inside is =
    ap table_after (take_more commands i c inside ∙ ap (λ (x : Command). take i commands ++ x ∷ []) (sym is))
    ∙ fold-append (λ t x. (applied t x).table) no_locks (take i commands) (c ∷ [])

-- the reply there is the one that a table gives
pub replies_if : (log : List Command) (slot : ℕ) (c : Command) (given reply : Reply) → slot < length log → c ≡ get_or log slot c → given ≡ (applied (table_after (take slot log)) c).reply
    → given ≡ reply → RepliesAfter log slot reply
replies_if log slot c given reply inside is gives same =
    record {
      command = c;
      stands = slice_get-get_or log slot c inside ∙ ap Some (sym is);
      replied = sym same ∙ gives;
    }

pub replies_only : (log : List Command) (slot : ℕ) (c : Command) (given reply : Reply) → slot < length log → c ≡ get_or log slot c → given ≡ (applied (table_after (take slot log)) c).reply
    → RepliesAfter log slot reply → given ≡ reply
replies_only log slot c given reply inside is gives r =
    let same : r.command ≡ c = sym (get_or_from_slice_get log slot r.command c r.stands) ∙ sym is in
    gives ∙ ap (λ (x : Command). reply_after (take slot log) x) (sym same) ∙ sym r.replied

pub no_reply : (log : List Command) (slot : ℕ) (reply : Reply) → length log ≤ slot → RepliesAfter log slot reply → ⊥
no_reply log slot reply past r = let inside = slice_get_within log slot r.command r.stands in absurd (omega (arith, past, inside))

-- ANSWER BY ANSWER

pub one_more_of_all : {X : Type 0} (P : X → Type 0) (items all : List X) (i : ℕ) (x : X) → items ≡ all → i < length items → x ≡ get_or items i x → P x → All P (take i all) → All P (take (i + 1) all)
one_more_of_all P items all i x same inside is holds so_far =
    let here : i < length all = subst (λ l. i < length l) same inside in
    let is_there : x ≡ get_or all i x = is ∙ ap (λ l. get_or l i x) same in
    subst (All P) (sym (take_more all i x here ∙ ap (λ y. take i all ++ y ∷ []) (sym is_there))) (All-push P (take i all) x so_far holds)

pub all_of_all : {X : Type 0} (P : X → Type 0) (items all : List X) (i : ℕ) → items ≡ all → length items ≤ i → All P (take i all) → All P all
all_of_all P items all i same past so_far = subst (All P) (take_all i all (subst (λ l. length l ≤ i) same past)) so_far
