-- A member more, until all are written.
use Rattle.std.proofs.Common.{List, arith, subst, take_all}
use Rattle.std.specs.List.{flat_map}
use Rattle.mg_words.specs.Objects.{Adds, member_tokens}
use Rattle.mg_words.specs.declared.object.Member.{Member}
use Rattle.mg_words.proofs.Adding.{none, one_more}
use Rattle.mg_words.proofs.object.put_members.Goals as goal

pub loop-member-init : goal.loop-member-init
loop-member-init c = none c.args.object.now

pub loop-member-preserved : goal.loop-member-preserved
loop-member-preserved c =
    one_more c.args.object.now c.loop-member.object _ c.args.members.now c.loop-member.member-index _ c.loop-member-test.true c.loop-member.invariant c.in_ok-put_member.ensures

pub returns : goal.returns
returns c =
    subst (λ (members : List Member). Adds c.args.object.now c.loop-member.object (flat_map member_tokens members)) (take_all c.loop-member.member-index c.args.members.now (omega (arith, c.loop-member-test.false)))
    c.loop-member.invariant
