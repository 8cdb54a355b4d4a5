-- The kind is that of so many slots.
use Rattle.std.proofs.Common.{◌≡◌, ◌∙◌, ℕ, List, [], ◌∷◌, Option, codes, ap}
use Rattle.std.specs.Prelude.{decimal}
use Rattle.std.proofs.lemmas.Result.{IfOk-weaker}
use Rattle.json.specs.Print.{print}
use Rattle.json.specs.Token.{begin_object, end_object, key, string, number}
use Rattle.mg_words.specs.Objects.{count_token}
use Rattle.mg_words.specs.Results.{created, kind_name}
use Rattle.mg_words.proofs.results.created.Goals as goal

with_kind : (folder : List ℕ) (cluster disks : ℕ) (slots : Option ℕ) (kind : List ℕ) → kind ≡ kind_name slots
    → (begin_object ∷ key (codes "folder") ∷ string folder ∷ key (codes "cluster") ∷ string (decimal cluster) ∷ key (codes "disks") ∷ number (decimal disks) ∷ key (codes "slots") ∷ count_token slots
    ∷ key (codes "kind") ∷ string kind ∷ end_object ∷ []) ≡ created folder cluster disks slots
with_kind folder cluster disks slots kind is =
    ap (λ (k : List ℕ). begin_object ∷ key (codes "folder") ∷ string folder ∷ key (codes "cluster") ∷ string (decimal cluster) ∷ key (codes "disks") ∷ number (decimal disks) ∷ key (codes "slots") ∷ count_token slots
    ∷ key (codes "kind") ∷ string k ∷ end_object ∷ []) is

pub returns-clause-text : goal.returns-clause-text
returns-clause-text c =
    IfOk-weaker c.object_of.result _ _ (λ object is. is ∙ ap print (with_kind c.args.folder.now c.args.cluster c.args.disks c.args.slots c.kind_name.result.now c.kind_name.ensures))
    c.object_of.ensures.text

pub returns-clause-read : goal.returns-clause-read
returns-clause-read c =
    IfOk-weaker c.object_of.result _ _ (λ object is. is ∙ with_kind c.args.folder.now c.args.cluster c.args.disks c.args.slots c.kind_name.result.now c.kind_name.ensures)
    c.object_of.ensures.read
