-- Each form is one of the list.
use Rattle.std.proofs.Common.{◌≡◌, ◌<◌, ℕ, get_or, refl, subst, lit<}
use Rattle.mg_words.specs.Forms.{forms}
use Rattle.mg_words.specs.declared.form.Form.{Form}
use Rattle.mg_words.specs.declared.form.Form.TheVariants.{Create, CreateDisks, CreateSlots, CreateBoth, CreateJson, CreateDisksJson, CreateSlotsJson, CreateBothJson, Submit, SubmitJson, Table, TableJson, Mark, MarkJson, Check, CheckJson, Migrate, MigrateJson, Replace, ReplaceJson, Run, Sweep}

-- its place there
abbrev pub index_of : Form → ℕ
index_of Create = 0
index_of CreateDisks = 1
index_of CreateSlots = 2
index_of CreateBoth = 3
index_of CreateJson = 4
index_of CreateDisksJson = 5
index_of CreateSlotsJson = 6
index_of CreateBothJson = 7
index_of Submit = 8
index_of SubmitJson = 9
index_of Table = 10
index_of TableJson = 11
index_of Mark = 12
index_of MarkJson = 13
index_of Check = 14
index_of CheckJson = 15
index_of Migrate = 16
index_of MigrateJson = 17
index_of Replace = 18
index_of ReplaceJson = 19
index_of Run = 20
index_of Sweep = 21

pub form_at : (f : Form) → get_or forms (index_of f) Create ≡ f
form_at Create = refl
form_at CreateDisks = refl
form_at CreateSlots = refl
form_at CreateBoth = refl
form_at CreateJson = refl
form_at CreateDisksJson = refl
form_at CreateSlotsJson = refl
form_at CreateBothJson = refl
form_at SubmitJson = refl
form_at Submit = refl
form_at Table = refl
form_at TableJson = refl
form_at Mark = refl
form_at MarkJson = refl
form_at Check = refl
form_at CheckJson = refl
form_at Migrate = refl
form_at MigrateJson = refl
form_at Replace = refl
form_at ReplaceJson = refl
form_at Run = refl
form_at Sweep = refl

pub inside : (f : Form) → index_of f < 22
inside Create = lit< tt
inside CreateDisks = lit< tt
inside CreateSlots = lit< tt
inside CreateBoth = lit< tt
inside CreateJson = lit< tt
inside CreateDisksJson = lit< tt
inside CreateSlotsJson = lit< tt
inside CreateBothJson = lit< tt
inside SubmitJson = lit< tt
inside Submit = lit< tt
inside Table = lit< tt
inside TableJson = lit< tt
inside Mark = lit< tt
inside MarkJson = lit< tt
inside Check = lit< tt
inside CheckJson = lit< tt
inside Migrate = lit< tt
inside MigrateJson = lit< tt
inside Replace = lit< tt
inside ReplaceJson = lit< tt
inside Run = lit< tt
inside Sweep = lit< tt

-- what holds at each place of the list holds of each form
pub of_each : (P : Form → Type 0) → ((k : ℕ) → k < 22 → P (get_or forms k Create)) → (f : Form) → P f
of_each P each f = subst P (form_at f) (each (index_of f) (inside f))
