-- What the words of a command line may ask for.
use Rattle.std.specs.Prelude.{◌≡◌, true}
use Rattle.lock_command.specs.Command.{is_submittable}
use Rattle.endless_image.specs.Kinds.{IsSlotsBy}
use Rattle.dlm_words.specs.declared.words.Subcommand.{Subcommand}
use Rattle.dlm_words.specs.declared.words.Subcommand.TheVariants.{Format, Submit}

-- a log of this kind may have so many slots, or epochs of so many; and a client may ask for the command that is submitted
abbrev pub MayBeAsked : Subcommand → Type 0
MayBeAsked (Format folder kind config cluster) = IsSlotsBy kind config.slots
MayBeAsked (Submit folder command) = is_submittable command ≡ true
MayBeAsked other = Unit {0}
