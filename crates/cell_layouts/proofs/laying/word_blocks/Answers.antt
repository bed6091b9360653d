use Rattle.std.proofs.Common.{ℕ, ◌+◌, List, [], take, sym, subst, arith}
use Rattle.std.proofs.Math.Seq.{take_all}
use Rattle.cell_layouts.specs.declared.layout.Block.{Block}
use Rattle.cell_layouts.specs.Layout.{AreWordBlocks, size_of}
use Rattle.cell_layouts.proofs.WordBlocks.{no_words, next_word}
use Rattle.cell_layouts.proofs.laying.word_blocks.Goals as goal

pub loop-far-init : goal.loop-far-init
loop-far-init c = record {
  words = subst (AreWordBlocks [] 0) (sym {A = List Block} c.in_ok-blocks.ensures.items) no_words;
  few = omega arith;
}

pub loop-far-preserved : goal.loop-far-preserved
loop-far-preserved c =
    let fars = c.args.fars.now in
    let number = c.loop-far.far-index in
    let block = c.word_block-block.result in
    let more = next_word fars c.loop-far.blocks.items number c.loop-far.place _ block (omega arith) c.loop-far.invariant.words c.word_block-block.ensures.place c.word_block-block.ensures.there in
    let W : List Block → Type 0 = λ words. AreWordBlocks (take (number + 1) fars) (c.loop-far.place + size_of block) words in
    let N : ℕ → Type 0 = λ size. AreWordBlocks (take (number + 1) fars) (c.loop-far.place + size) c.push.new.self.items in
    record {
      words = subst N (sym c.from-place.ensures) (subst W (sym {A = List Block} c.in_ok-push.ensures.items) more);
      few = omega (arith, c.loop-far.invariant.few, c.from-place.ensures, c.word_block-block.ensures.there.few);
    }

pub returns : goal.returns
returns c =
    subst (λ them. AreWordBlocks them c.loop-far.place c.loop-far.blocks.items) (take_all c.loop-far.far-index c.args.fars.now c.loop-far-test.false) c.loop-far.invariant.words
