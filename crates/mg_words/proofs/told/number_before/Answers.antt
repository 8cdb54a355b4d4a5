-- The digits stand before the first such character, and they spell the number.
use Rattle.std.proofs.Common.{◌∙◌, Some, ap, sym}
use Rattle.std.proofs.lemmas.Str.Pattern.{split_parts}
use Rattle.lock_script.specs.Reading.{number_in}
use Rattle.mg_words.proofs.told.number_before.Goals as goal

pub returns : goal.returns
returns c =
    let cut = split_parts c.args.end c.args.text.now (Some (c.in_ok-digits.digits, c.in_ok-digits.rest)) c.in_ok-digits.ensures.cases c.requires in
    record {
      digits = c.in_ok-digits.digits.now;
      spells = ap (number_in 0 18446744073709551615) (sym c.as_bytes.ensures.value) ∙ (sym c.number_in.ensures.exact ∙ c.in_ok-number.was);
      whole = cut.0;
    }
