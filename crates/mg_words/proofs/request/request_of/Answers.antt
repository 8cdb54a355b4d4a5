-- The form that is found takes the words; and where none is found, none does.
use Rattle.std.proofs.Common.{◌≡◌, false, map, sym}
use Rattle.std.proofs.lemmas.Result.{IfOk-weaker}
use Rattle.mg_words.specs.Asking.{Asks, Says, takes}
use Rattle.mg_words.specs.Forms.{forms}
use Rattle.mg_words.specs.declared.form.Form.{Form}
use Rattle.mg_words.proofs.EachForm.{of_each}
use Rattle.mg_words.proofs.Lines.{found_passes, none_passes}
use Rattle.mg_words.proofs.request.request_of.Goals as goal

pub request_in-requires : goal.request_in-requires
request_in-requires c = found_passes (λ (form : Form). takes form (map (λ word. word.now) c.args.words.now)) forms c.in-Some.form (sym c.in-Some.ensures)

pub first_bad-requires : goal.first_bad-requires
first_bad-requires c =
    of_each (λ (form : Form). takes form (map (λ word. word.now) c.args.words.now) ≡ false)
    (none_passes (λ (form : Form). takes form (map (λ word. word.now) c.args.words.now)) forms (sym c.in-None.ensures))

pub returns-in-Some-clause-asked : goal.returns-in-Some-clause-asked
returns-in-Some-clause-asked c =
    let texts = map (λ word. word.now) c.args.words.now in
    let taken = found_passes (λ (form : Form). takes form texts) forms c.in-Some.form (sym c.in-Some.ensures) in
    IfOk-weaker c.request_in.result (Says c.in-Some.form texts) (Asks texts) (λ request said. record { form = c.in-Some.form; taken = taken; said = said }) c.request_in.ensures.said
