-- A log of the first layout that was moved gives the same locks and the same answers, and every value is zeros.
use Rattle.std.proofs.Common.{◌≡◌, ℕ, ◌==◌, nat_lt, nat_le, Bool, true, false, cond, not, List, [], ◌∷◌, ◌++◌, length, map, Option, Some, None, refl, sym, ap, ◌∙◌}
use Rattle.std.specs.List.{fold, filter, find}
use Rattle.std.proofs.lemmas.List.{length-map, map-append}
use Rattle.lock_command.specs.declared.old.OldAction.{OldAction}
use Rattle.lock_command.specs.declared.old.OldAction.TheVariants.{Enqueue, Convert, Release, Cancel, Status, Purge}
use Rattle.lock_command.specs.declared.old.OldCommand.{OldCommand}
use Rattle.lock_command.specs.Old.{same_action, upgraded_action, upgraded}
use Rattle.lock_table.specs.declared.clients.TheConstants.{CLIENTS}
use Rattle.lock_command.specs.declared.record.LockRecord.{LockRecord}
use Rattle.lock_table.specs.declared.known_client.KnownClient.{KnownClient}
use Rattle.lock_command.specs.declared.reply.Answer.{Answer}
use Rattle.lock_command.specs.declared.reply.Reply.{Reply}
use Rattle.lock_command.specs.declared.reply.Refusal.TheVariants as refusal
use Rattle.lock_table.specs.Apply.{Applied, done, is_client, kept, keeps_none, forgotten_by, without_client, kept_after, told_again, replied, carried_out, unchanged, refusing, applied_after, applied, table_after}
use Rattle.lock_table.specs.Old.{OldClient, OldTable, OldApplied, is_old_client, old_carried_out, old_applied_after, old_applied, old_table_after, with_zeros, known_again, again}
use Rattle.lock_table.specs.Stored.{value_in, gives_nothing}
use Rattle.lock_table.specs.Values.{asked_value, returned, values_after, zeros}
use Rattle.lock_table.proofs.Stored.{nothing_after, asked_zeros}

-- what an old command comes to today
abbrev lifted : OldApplied → Applied
lifted x = record { table = again x.table; reply = with_zeros x.answer }

-- ONE COMMAND

-- the action of today does the same to the locks, gives no value, is told what it did, is kept of its client and forgets none
record IsAlike (locks : List LockRecord) (host client : ℕ) (action : OldAction) : Type 0 where
  does : done locks host client (upgraded_action action) ≡ done locks host client (same_action action)
  gives : gives_nothing (upgraded_action action) ≡ true
  told : (r : Reply) → told_again (upgraded_action action) r ≡ r
  is_kept : keeps_none (upgraded_action action) ≡ false
  forgets : (a : Answer) → forgotten_by (upgraded_action action) a ≡ None

alike : (locks : List LockRecord) (host client : ℕ) (action : OldAction) → IsAlike locks host client action
alike locks host client (Enqueue lock name mode no_queue) = record { does = refl; gives = refl; told = λ r. refl; is_kept = refl; forgets = λ a. refl }
alike locks host client (Convert lock mode no_queue) = record { does = refl; gives = refl; told = λ r. refl; is_kept = refl; forgets = λ a. refl }
alike locks host client (Release lock) = record { does = refl; gives = refl; told = λ r. refl; is_kept = refl; forgets = λ a. refl }
alike locks host client (Cancel lock) = record { does = refl; gives = refl; told = λ r. refl; is_kept = refl; forgets = λ a. refl }
alike locks host client (Status lock) = record { does = refl; gives = refl; told = λ r. refl; is_kept = refl; forgets = λ a. refl }
alike locks host client (Purge gone) = record { does = refl; gives = refl; told = λ r. refl; is_kept = refl; forgets = λ a. refl }

filter_again : (client : ℕ) (clients : List OldClient) → filter (λ k. not (is_client client k)) (map known_again clients) ≡ map known_again (filter (λ k. not (is_old_client client k)) clients)
filter_again client [] = refl
filter_again client (k ∷ clients) =
    elim (k.client == client) as (λ b. cond (not b) (known_again k ∷ filter (λ o. not (is_client client o)) (map known_again clients)) (filter (λ o. not (is_client client o)) (map known_again clients))
    ≡ map known_again (cond (not b) (k ∷ filter (λ o. not (is_old_client client o)) clients) (filter (λ o. not (is_old_client client o)) clients))) [
      | true ↦ filter_again client clients
      | false ↦ ap (λ l. known_again k ∷ l) (filter_again client clients)
    ]

abbrev if_known : Option OldClient → Option KnownClient
if_known None = None
if_known (Some k) = Some (known_again k)

find_again : (client : ℕ) (clients : List OldClient) → find (is_client client) (map known_again clients) ≡ if_known (find (is_old_client client) clients)
find_again client [] = refl
find_again client (k ∷ clients) =
    elim (k.client == client) as (λ b. cond b (Some (known_again k)) (find (is_client client) (map known_again clients)) ≡ if_known (cond b (Some k) (find (is_old_client client) clients))) [
      | true ↦ refl
      | false ↦ find_again client clients
    ]

carried_again : (t : OldTable) (c : OldCommand) → carried_out (again t) (upgraded c) ≡ lifted (old_carried_out t c)
carried_again t c =
    let action = upgraded_action c.action in
    let is = alike t.locks c.host c.client c.action in
    let same = is.does in
    let outcome = done t.locks c.host c.client action in
    let values : values_after (value_in []) t.locks outcome.locks action outcome.answer ≡ value_in [] = sym (nothing_after t.locks outcome.locks action outcome.answer is.gives) in
    let asked : asked_value (values_after (value_in []) t.locks outcome.locks action outcome.answer) t.locks action ≡ zeros =
    ap (λ v. asked_value v t.locks action) values ∙ sym (asked_zeros t.locks action) in
    let reply : replied (values_after (value_in []) t.locks outcome.locks action outcome.answer) t.locks action outcome.answer ≡ with_zeros (old_carried_out t c).answer =
    is.told _ ∙ (λ i. record { answer = (same i).answer; value = returned (same i).answer (asked i) }) in
    let last : OldClient = record { client = c.client; request = c.request; answer = (old_carried_out t c).answer } in
    let others = filter (λ k. not (is_old_client c.client k)) t.clients in
    let clients : kept_after action (map known_again t.clients) (record { client = c.client; request = c.request; reply = replied (values_after (value_in []) t.locks outcome.locks action outcome.answer) t.locks action outcome.answer })
    ≡ map known_again (others ++ last ∷ []) =
    ap (λ o. without_client o (cond (keeps_none action) (map known_again t.clients) (kept (map known_again t.clients) (record { client = c.client; request = c.request; reply = replied (values_after (value_in []) t.locks outcome.locks action outcome.answer) t.locks action outcome.answer })))) (is.forgets _)
    ∙ ap (λ b. cond b (map known_again t.clients) (kept (map known_again t.clients) (record { client = c.client; request = c.request; reply = replied (values_after (value_in []) t.locks outcome.locks action outcome.answer) t.locks action outcome.answer }))) is.is_kept
    ∙ ap (λ (r : Reply). filter (λ k. not (is_client c.client k)) (map known_again t.clients) ++ record { client = c.client; request = c.request; reply = r } ∷ []) reply
    ∙ ap (λ l. l ++ known_again last ∷ []) (filter_again c.client t.clients)
    ∙ sym (map-append known_again others (last ∷ [])) in
    λ i. record { table = record { locks = (same i).locks; values = values i; clients = clients i }; reply = reply i }

by_test : (b : Bool) (x y : Applied) (p q : OldApplied) → x ≡ lifted p → y ≡ lifted q → cond b x y ≡ lifted (cond b p q)
by_test true x y p q one other = one
by_test false x y p q one other = other

after_again : (t : OldTable) (c : OldCommand) (found : Option OldClient) → applied_after (again t) (upgraded c) (if_known found) ≡ lifted (old_applied_after t c found)
after_again t c None =
    ap (λ n. cond (nat_le CLIENTS n) (unchanged (again t) (refusing refusal.ClientsFull)) (carried_out (again t) (upgraded c))) (length-map t.clients known_again)
    ∙ by_test (nat_le CLIENTS (length t.clients)) _ _ _ _ refl (carried_again t c)
after_again t c (Some k) =
    by_test (nat_lt c.request k.request) _ _ _ _ refl
    (by_test (c.request == k.request) _ _ _ _ refl (carried_again t c))

pub applied_again : (t : OldTable) (c : OldCommand) → applied (again t) (upgraded c) ≡ lifted (old_applied t c)
unfolding applied
applied_again t c = ap (applied_after (again t) (upgraded c)) (find_again c.client t.clients) ∙ after_again t c (find (is_old_client c.client) t.clients)

-- ALL OF A LOG

from_table : (log : List OldCommand) (t : OldTable) → fold (λ t c. (applied t c).table) (again t) (map upgraded log) ≡ again (fold (λ t c. (old_applied t c).table) t log)
from_table [] t = refl
from_table (c ∷ log) t = ap (λ (x : Applied). fold (λ t c. (applied t c).table) x.table (map upgraded log)) (applied_again t c) ∙ from_table log (old_applied t c).table

pub table_again : (log : List OldCommand) → table_after (map upgraded log) ≡ again (old_table_after log)
table_again log = from_table log (record { locks = []; clients = [] })

pub reply_again : (log : List OldCommand) (c : OldCommand) → (applied (table_after (map upgraded log)) (upgraded c)).reply ≡ with_zeros (old_applied (old_table_after log) c).answer
reply_again log c = ap (λ t. (applied t (upgraded c)).reply) (table_again log) ∙ ap (λ (x : Applied). x.reply) (applied_again (old_table_after log) c)
