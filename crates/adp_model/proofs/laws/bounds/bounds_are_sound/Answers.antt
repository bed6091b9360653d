use Rattle.adp_model.proofs.BoundSoundness.{magnitude_sound, score_sound, nodes_sound}
use Rattle.adp_model.proofs.laws.bounds.bounds_are_sound.Goals as goal

pub returns : goal.returns
returns c = record {
  magnitude = magnitude_sound;
  score = score_sound;
  nodes = nodes_sound;
}
