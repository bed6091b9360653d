use Rattle.std.proofs.Common.{rules, arith}
use Rattle.memo_words.proofs.Moves.{splits}
use Rattle.memo_words.proofs.words.Words.split.Goals as goal

pub split_seat-seat-requires : goal.split_seat-seat-requires
split_seat-seat-requires c = record {
  table = search rules;
  words = search rules;
  parts = (let p = c.args.pass.now.parts in let s = c.args.pass.now.sound.1 in let q = c.requires.spare in omega arith);
  rule = splits _ _ _ c.args.pass.now.sound.1 c.requires.spare;
}
