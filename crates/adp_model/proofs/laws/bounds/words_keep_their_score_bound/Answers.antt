use Rattle.adp_model.proofs.BoundSoundness.{magnitude_kept, score_kept, token_kept}
use Rattle.adp_model.proofs.laws.bounds.words_keep_their_score_bound.Goals as goal

pub returns : goal.returns
returns c = record {
  magnitude = magnitude_kept;
  score = score_kept;
  token = token_kept;
}
