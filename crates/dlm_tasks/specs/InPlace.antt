-- What is printed of a folder that is changed in place: its log is made one without an end, or a lost image is replaced.
use Rattle.std.specs.Prelude.{ℕ, List, [], ◌∷◌, ◌++◌, codes, decimal, Option}
use Rattle.std.specs.Io.KnownBytes.{Appends}
use Rattle.in_place.specs.InPlaceFolders.{CameTo}
use Rattle.in_place.specs.Replacing.{WasReplaced}
use Rattle.in_place.specs.declared.in_place.MadeEndless.{MadeEndless}
use Rattle.in_place.specs.declared.in_place.MadeEndless.TheVariants.{Made, Already}

-- how many images, and how many slots an epoch has; or that all of them were endless already
abbrev pub made_text : MadeEndless → List ℕ
made_text (Made disks slots) = codes "made endless: " ++ (decimal disks ++ (codes " disks, " ++ (decimal slots ++ (codes " slots an epoch" ++ 10 ∷ []))))
made_text (Already disks) = codes "finished " ++ decimal disks ++ (codes " disks" ++ 10 ∷ [])

-- The images were made endless, and what that came to was written.
pub record WritesMaking (before after : Option (List ℕ)) : Type 0 where
  pub made : MadeEndless
  pub came_to : CameTo made
  pub written : Appends before after (made_text made)

-- from which epoch on the new image takes part
abbrev pub replaced_text : (disk first : ℕ) → List ℕ
replaced_text disk first = codes "replaced disk" ++ (decimal disk ++ (codes ": it takes part from epoch " ++ (decimal first ++ (codes " on" ++ 10 ∷ []))))

-- The image was replaced, and that was written.
pub record WritesReplacing (disk : ℕ) (before after : Option (List ℕ)) : Type 0 where
  pub first : ℕ
  pub replaced : WasReplaced disk first
  pub written : Appends before after (replaced_text disk first)
