use Rattle.std.proofs.Common.{rules, ◌∙◌, ◌<◌, ◌≡◌, ℕ, ℤ, inl, inr, refl, sym, ap, subst, w32}
use Rattle.std.proofs.lemmas.Int.{to_z-of_z}
use Rattle.disk.specs.Disk.{Call}
use Rattle.attempt.specs.Looking.{OnlyReads}
use Rattle.epoch_host.specs.Walking.{call_due}
use Rattle.c_host.specs.Numbers.{done}
use Rattle.c_epochs.specs.Calls.{TellsCallDue, call_away}
use Rattle.c_epochs.proofs.Standing.{is_busy}
use Rattle.c_epochs.proofs.open_epochs.OpenEpochs.due.Goals as goal

pub call-need-requires : goal.call-need-requires
call-need-requires c = record { busy = is_busy c.args.self.now.host.task (sym c.idle.ensures ∙ c.if-idle.false) }

pub is_away-requires : goal.is_away-requires
is_away-requires c = is_busy c.args.self.now.host.task (sym c.idle.ensures ∙ c.if-idle.false)

pub returns-then-is_away-clause-next : goal.returns-then-is_away-clause-next
returns-then-is_away-clause-next c = inl (
  is_busy c.args.self.now.host.task (sym c.idle.ensures ∙ c.if-idle.false),
  inl (sym c.is_away.ensures ∙ c.if-is_away.true, search rules, c.away.ensures ∙ ap (λ (d : ℕ × Call). call_away d.0) c.call-need.ensures.due, refl),
)

pub returns-clause-next : goal.returns-clause-next
returns-clause-next c = inl (
  is_busy c.args.self.now.host.task (sym c.idle.ensures ∙ c.if-idle.false),
  inr (
    sym c.is_away.ensures ∙ c.if-is_away.false,
    subst (λ (n : ℤ). TellsCallDue (call_due c.args.self.now.host) c.tell.new.call c.args.written.now.bytes c.tell.new.written.bytes n) (sym (to_z-of_z w32 c.tell.result (search rules)))
        (subst (λ (d : ℕ × Call). TellsCallDue d c.tell.new.call c.args.written.now.bytes c.tell.new.written.bytes c.tell.result) c.call-need.ensures.due c.tell.ensures.told),
  ),
)

pub returns-clause-within : goal.returns-clause-within
returns-clause-within c = λ is_done.
    let told : c.tell.result ≡ done = sym (to_z-of_z w32 c.tell.result (search rules)) ∙ is_done in
    record { disk = subst (λ (n : ℕ). n < c.args.self.now.host.config.disks) (sym (c.tell.ensures.disk told)) c.call-need.ensures.disk; range = c.tell.ensures.within told _ c.call-need.ensures.range }

pub returns-clause-reads : goal.returns-clause-reads
returns-clause-reads c = λ only is_done.
    let told : c.tell.result ≡ done = sym (to_z-of_z w32 c.tell.result (search rules)) ∙ is_done in
    c.tell.ensures.reads (subst (λ (d : ℕ × Call). OnlyReads d.1) (sym c.call-need.ensures.due) (c.call-need.ensures.reads only)) told
