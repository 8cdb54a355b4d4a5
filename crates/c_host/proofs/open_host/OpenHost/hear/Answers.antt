use Rattle.std.proofs.Common.{rules, ◌≡◌, ℕ, Some, refl, sym, ◌∙◌, ap, subst}
use Rattle.disk.specs.Disk.{Call}
use Rattle.attempt.specs.Answers.{Heard}
use Rattle.attempt.specs.History.{Fits}
use Rattle.torn_block.specs.Layout.{cluster_version}
use Rattle.attempt.specs.DeviceCalls.{device_call_of, heard_of, device_answer}
use Rattle.host.specs.Kept.{due_call}
use Rattle.host.proofs.Hosts.{heard_same}
use Rattle.c_host.proofs.open_host.OpenHost.hear.Goals as goal

pub returns-clause-heard : goal.returns-clause-heard
returns-clause-heard c =
    let call : device_call_of cluster_version c.call.result.call ≡ (due_call c.args.self.now.core).1 = ap (λ (d : ℕ × Call). d.1) c.call.ensures.due in record {
      busy = sym c.idle.ensures.idle ∙ c.if-idle.false;
      answer = device_answer c.in-Some.heard;
      is = Prim.search rules;
      heard = record {
        due = λ k h m leads. record {
          next = c.call.ensures.next k h m leads ∙ ap (λ (d : ℕ × Call). Some d) c.call.ensures.due;
          fits =
              subst (λ (x : Heard). Fits (due_call c.args.self.now.core).1 x) (heard_same c.in-Some.heard)
              (subst (λ (x : Call). Fits x (heard_of cluster_version c.in-Some.heard)) call c.in-Some.ensures.fits);
        };
        leads = c.hear.ensures.leads;
      };
      same = record { config = refl; cluster = refl };
    }
