use Rattle.std.proofs.Common.{rules, ◌<◌, ◌≤◌, ◌∙◌, sym}
use Rattle.session.proofs.claim.Claim.free_number.Goals as goal

pub returns-then-not-is_numbered : goal.returns-then-not-is_numbered
returns-then-not-is_numbered c =
    let over : c.last_request-last.result < c.in_ok-request.request = search rules
    in record {
      free = record {
        free = sym c.is_numbered.ensures ∙ c.if-not-is_numbered.true;
        goes_with = search rules;
        next = record {
          above = search rules;
          later = λ known is. let told : known.request ≤ c.last_request-last.result = c.last_request-last.ensures.known known is in search rules;
        };
      };
    }
