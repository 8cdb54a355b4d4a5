use Rattle.std.proofs.Common.{◌∙◌, ap, length, arith}
use Rattle.std.proofs.lemmas.List.{take_all}
use Rattle.torn_block.specs.declared.layout.TheConstants.{BODY_LENGTH}
use Rattle.heartbeat.proofs.BeatLaws.{length-beat_body}
use Rattle.heartbeat.proofs.area.encode_beat.Goals as goal

-- a body of the cluster's layout takes all the room
pub returns : goal.returns
returns c = take_all BODY_LENGTH c.put_beat.new.bytes (omega (arith, ap length c.put_beat.ensures, length-beat_body)) ∙ c.put_beat.ensures
