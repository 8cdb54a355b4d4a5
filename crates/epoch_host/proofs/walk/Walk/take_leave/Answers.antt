use Rattle.epoch_host.specs.declared.stay.Leave.TheVariants as leave
use Rattle.std.proofs.Common.{◌∙◌, sym, subst}
use Rattle.epoch_host.specs.Walking.{IsAnswering, IsLeftFor}
use Rattle.epoch_host.proofs.Ending.{ahead_refuses, done_as, done_ok}
use Rattle.epoch_host.proofs.Walking.{rests_sound}
use Rattle.epoch_host.proofs.walk.Walk.take_leave.Goals as goal

pub say-requires-clause-stays : goal.say-requires-clause-stays
say-requires-clause-stays c = let s = c.requires.stays in (s.0, s.1, s.2, subst (IsLeftFor c.args.self.now.task s.0) c.in-Answered.is s.3)

pub refuse-requires : goal.refuse-requires
refuse-requires c = let s = c.requires.stays in record { cause = ahead_refuses c.args.self.now.task c.args.self.now s.0 s.1 (subst (IsLeftFor c.args.self.now.task s.0) c.in-NotLearned.is s.3) }

pub returns-in-NotLearned-clause-sound : goal.returns-in-NotLearned-clause-sound
returns-in-NotLearned-clause-sound c =
    let s = c.requires.stays in
    let left : IsLeftFor c.args.self.now.task s.0 leave.NotLearned = subst (IsLeftFor c.args.self.now.task s.0) c.in-NotLearned.is s.3 in
    rests_sound c.args.self.now c.refuse.new.self s.0 c.requires.few c.refuse.ensures.same (c.refuse.ensures.is ∙ s.1) s.2 c.refuse.ensures.idle left.2.0

pub go_on-requires-clause-stays : goal.go_on-requires-clause-stays
go_on-requires-clause-stays c =
    let s = c.requires.stays in
    let left : IsLeftFor c.args.self.now.task s.0 leave.Full = subst (IsLeftFor c.args.self.now.task s.0) c.in-Full.is s.3 in
    (s.0, s.1, s.2, left.2.0, left.2.1)

pub go_on-requires-clause-comes : goal.go_on-requires-clause-comes
go_on-requires-clause-comes c =
    let s = c.requires.stays in
    let left : IsLeftFor c.args.self.now.task s.0 leave.Full = subst (IsLeftFor c.args.self.now.task s.0) c.in-Full.is s.3 in
    sym s.2.looks ∙ left.2.2

pub go_back-requires-clause-stays : goal.go_back-requires-clause-stays
go_back-requires-clause-stays c =
    let s = c.requires.stays in
    let left : IsLeftFor c.args.self.now.task s.0 leave.NeedsBefore = subst (IsLeftFor c.args.self.now.task s.0) c.in-NeedsBefore.is s.3 in
    (s.0, s.1, s.2, left.2)

-- THE TASK

pub returns-in-Answered-clause-task : goal.returns-in-Answered-clause-task
returns-in-Answered-clause-task c = done_as (IsAnswering (leave.Answered c.in-Answered.said)) (IsAnswering c.args.leave) c.args.self.now.task c.say.new.self (subst IsAnswering (sym c.in-Answered.is)) c.say.ensures.task

pub returns-in-NotLearned-clause-task : goal.returns-in-NotLearned-clause-task
returns-in-NotLearned-clause-task c = done_as ⊥ (IsAnswering c.args.leave) c.args.self.now.task c.refuse.new.self (λ none. absurd none) c.refuse.ensures.task

pub returns-in-Full-clause-task : goal.returns-in-Full-clause-task
returns-in-Full-clause-task c = done_ok ⊥ (IsAnswering c.args.leave) c.args.self.now.task c.go_on.new.self c.go_on.result (λ none. absurd none) c.go_on.ensures.task

pub returns-in-NeedsBefore-clause-task : goal.returns-in-NeedsBefore-clause-task
returns-in-NeedsBefore-clause-task c = done_ok ⊥ (IsAnswering c.args.leave) c.args.self.now.task c.go_back.new.self c.go_back.result (λ none. absurd none) c.go_back.ensures.task

pub returns-in-Passed-clause-task : goal.returns-in-Passed-clause-task
returns-in-Passed-clause-task c = done_as ⊥ (IsAnswering c.args.leave) c.args.self.now.task c.find.new.self (λ none. absurd none) c.find.ensures.task
