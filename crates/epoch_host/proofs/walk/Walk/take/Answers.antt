use Rattle.std.proofs.Common.{◌≡◌, Option, Some, None, ap, refl, ◌∙◌, sym, subst}
use Rattle.torn_block.specs.Layout.{cluster_version}
use Rattle.attempt.specs.DeviceCalls.{call_of_need, device_answer}
use Rattle.coming.specs.Finding as finding
use Rattle.epoch_host.specs.declared.stay.Leave.{Leave}
use Rattle.epoch_host.specs.declared.walk.Whereabouts.TheVariants.{Finds, In}
use Rattle.epoch_host.specs.Staying as stay
use Rattle.epoch_host.specs.Staying.{IsSoLeft, only_looks_for}
use Rattle.epoch_host.specs.Walking.{IsAnswering, IsFinding, IsFresh, IsGoing, due_in}
use Rattle.epoch_host.specs.declared.walk.Whereabouts.{Whereabouts}
use Rattle.epoch_host.specs.Leading.{WalksBy}
use Rattle.epoch_host.proofs.Moving.{asks_within, looks, makes_in, walks_by_then}
use Rattle.epoch_host.proofs.Walking.{goes_sound, is_under_way, left_for, same_epochs, still_for}
use Rattle.epoch_host.proofs.Ending.{answering_said, done_ok, goes_silent}
use Rattle.epoch_host.proofs.walk.Walk.take.Goals as goal

pub unreachable-requires : goal.unreachable-requires
unreachable-requires c = subst (IsGoing c.args.self.now) c.in-Nowhere.is (is_under_way c.args.self.now c.requires.sound c.requires.busy).going

pub take_found-requires-clause-task : goal.take_found-requires-clause-task
take_found-requires-clause-task c = let under = is_under_way c.args.self.now c.requires.sound c.requires.busy in (under.task, under.is, under.may)

pub take_found-requires-clause-finds : goal.take_found-requires-clause-finds
take_found-requires-clause-finds c = (c.hear.new.self, refl, record { is = sym c.end.ensures.told ∙ c.in-Some.is; so = c.in-Some.ensures.so })

pub take_leave-requires-clause-task : goal.take_leave-requires-clause-task
take_leave-requires-clause-task c = let under = is_under_way c.args.self.now c.requires.sound c.requires.busy in (under.task, under.is, under.may)

pub take_leave-requires-clause-stays : goal.take_leave-requires-clause-stays
take_leave-requires-clause-stays c =
    let under = is_under_way c.args.self.now c.requires.sound c.requires.busy in
    let stays = (subst (IsGoing c.args.self.now) c.in-In.is under.going).0 in (
      c.hear-in-In.new.self,
      refl,
      record { sound = c.hear-in-In.ensures.sound; host = c.hear-in-In.ensures.same.host ∙ stays.host; config = c.hear-in-In.ensures.same.config ∙ stays.config; looks = ap only_looks_for c.hear-in-In.ensures.same.errand ∙ stays.looks },
      left_for c.args.self.now.task under.task c.hear-in-In.new.self.task c.in-In.stay c.hear-in-In.new.self c.in-Some-hear.leave c.hear-in-In.ensures.same under.is
          (still_for c.args.self.now under c.in-In.stay c.hear-in-In.new.self.task c.in-In.is c.hear-in-In.ensures.task) (subst (λ (o : Option Leave). IsSoLeft c.hear-in-In.new.self.task o c.hear-in-In.new.self) c.in-Some-hear.is c.hear-in-In.ensures.left),
    )

pub returns-in-None-clause-makes : goal.returns-in-None-clause-makes
returns-in-None-clause-makes c =
    let old = c.args.self.now in
    let search = c.in-Finds.finding in
    let going : IsFinding old search = subst (IsGoing old) c.in-Finds.is (is_under_way old c.requires.sound c.requires.busy).going in
    subst (λ (place : Whereabouts). WalksBy old (record old { is = Finds c.hear.new.self }) (due_in place) (device_answer c.args.heard.now)) (sym c.in-Finds.is)
    (looks old (record old { is = Finds c.hear.new.self }) search c.hear.new.self (device_answer c.args.heard.now) c.in-Finds.is refl refl refl
    (asks_within search (call_of_need cluster_version c.call-due.result) old.config.disks c.call-due.ensures.due c.call-due.ensures.disk going.disks) c.hear.ensures.knows)

pub returns-in-Some-clause-makes : goal.returns-in-Some-clause-makes
returns-in-Some-clause-makes c =
    let old = c.args.self.now in
    let search = c.in-Finds.finding in
    let between = record old { is = Finds c.hear.new.self } in
    let going : IsFinding old search = subst (IsGoing old) c.in-Finds.is (is_under_way old c.requires.sound c.requires.busy).going in
    subst (λ (place : Whereabouts). WalksBy old c.take_found.new.self (due_in place) (device_answer c.args.heard.now)) (sym c.in-Finds.is)
    (walks_by_then old between c.take_found.new.self (finding.call_due search) (device_answer c.args.heard.now)
    (looks old between search c.hear.new.self (device_answer c.args.heard.now) c.in-Finds.is refl refl refl
    (asks_within search (call_of_need cluster_version c.call-due.result) old.config.disks c.call-due.ensures.due c.call-due.ensures.disk going.disks) c.hear.ensures.knows) c.take_found.ensures.leads)

pub returns-in-None-hear-clause-makes : goal.returns-in-None-hear-clause-makes
returns-in-None-hear-clause-makes c =
    let old = c.args.self.now in
    subst (λ (place : Whereabouts). WalksBy old (record old { is = In c.hear-in-In.new.self }) (due_in place) (device_answer c.args.heard.now)) (sym c.in-In.is)
    (makes_in old (record old { is = In c.hear-in-In.new.self }) c.in-In.stay c.hear-in-In.new.self (stay.call_due c.in-In.stay) (device_answer c.args.heard.now) refl refl c.in-In.is refl c.hear-in-In.ensures.makes)

pub returns-in-Some-hear-clause-makes : goal.returns-in-Some-hear-clause-makes
returns-in-Some-hear-clause-makes c =
    let old = c.args.self.now in
    let between = record old { is = In c.hear-in-In.new.self } in
    subst (λ (place : Whereabouts). WalksBy old c.take_leave.new.self (due_in place) (device_answer c.args.heard.now)) (sym c.in-In.is)
    (walks_by_then old between c.take_leave.new.self (stay.call_due c.in-In.stay) (device_answer c.args.heard.now)
    (makes_in old between c.in-In.stay c.hear-in-In.new.self (stay.call_due c.in-In.stay) (device_answer c.args.heard.now) refl refl c.in-In.is refl c.hear-in-In.ensures.makes) c.take_leave.ensures.leads)

-- THE TASK

pub returns-in-None-clause-task : goal.returns-in-None-clause-task
returns-in-None-clause-task c =
    let under = is_under_way c.args.self.now c.requires.sound c.requires.busy in goes_silent (IsFresh c.args.self.now.is) c.args.self.now.task _ under.task under.is refl under.silent

pub returns-in-None-hear-clause-task : goal.returns-in-None-hear-clause-task
returns-in-None-hear-clause-task c =
    let under = is_under_way c.args.self.now c.requires.sound c.requires.busy in goes_silent (IsFresh c.args.self.now.is) c.args.self.now.task _ under.task under.is refl under.silent

pub take_found-requires-clause-silent : goal.take_found-requires-clause-silent
take_found-requires-clause-silent c = (is_under_way c.args.self.now c.requires.sound c.requires.busy).silent

pub take_leave-requires-clause-silent : goal.take_leave-requires-clause-silent
take_leave-requires-clause-silent c = (is_under_way c.args.self.now c.requires.sound c.requires.busy).silent

pub take_found-requires-clause-looks : goal.take_found-requires-clause-looks
take_found-requires-clause-looks c = c.requires.sound.looks

pub take_leave-requires-clause-looks : goal.take_leave-requires-clause-looks
take_leave-requires-clause-looks c = c.requires.sound.looks

pub returns-in-None-hear-clause-sound : goal.returns-in-None-hear-clause-sound
returns-in-None-hear-clause-sound c =
    let old = c.args.self.now in
    let under = is_under_way old c.requires.sound c.requires.busy in
    let stays = (subst (IsGoing old) c.in-In.is under.going).0 in
    let new = c.hear-in-In.new.self in
    goes_sound old _ new c.requires.sound.few (record { host = refl; config = refl; looks = refl }) refl
    (record { sound = c.hear-in-In.ensures.sound; host = c.hear-in-In.ensures.same.host ∙ stays.host; config = c.hear-in-In.ensures.same.config ∙ stays.config; looks = ap only_looks_for c.hear-in-In.ensures.same.errand ∙ stays.looks }) under.task under.is (λ only. c.requires.sound.looks only under.task under.is) under.may
    (subst (λ (o : Option Leave). IsSoLeft new.task o new) c.in-None-hear.is c.hear-in-In.ensures.left)
    (same_epochs under.task new.task c.in-In.stay new c.hear-in-In.ensures.same (still_for old under c.in-In.stay new.task c.in-In.is c.hear-in-In.ensures.task))
    under.silent

pub returns-in-Some-clause-task : goal.returns-in-Some-clause-task
returns-in-Some-clause-task c = done_ok ⊥ (IsFresh c.args.self.now.is) c.args.self.now.task c.take_found.new.self c.take_found.result (λ none. absurd none) c.take_found.ensures.task

pub returns-in-Some-hear-clause-task : goal.returns-in-Some-hear-clause-task
returns-in-Some-hear-clause-task c =
    done_ok (IsAnswering c.in-Some-hear.leave) (IsFresh c.args.self.now.is) c.args.self.now.task c.take_leave.new.self c.take_leave.result
    (λ answering.
    subst IsFresh (sym c.in-In.is) (answering_said c.in-Some-hear.leave (c.in-In.stay.core.said ≡ None) (λ said is. c.hear-in-In.ensures.fresh said (c.in-Some-hear.is ∙ ap (λ (l : Leave). Some l) is)) answering))
    c.take_leave.ensures.task
