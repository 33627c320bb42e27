use Rattle.std.proofs.Common.{◌≡◌, ◌*◌, ◌/◌, inl, inr, arith, rules}
use Rattle.std.proofs.lemmas.Bool.{cases_lt, false≢true}
use Rattle.bit_rows.proofs.WordLemmas.{meet_in_row, apart_in_row, apart_all}
use Rattle.bit_rows.proofs.words.words_meet.Goals as goal

pub loop-i-init : goal.loop-i-init
loop-i-init c = λ k never. absurd (omega (arith, never))

pub returns-then-words-i-ne0 : goal.returns-then-words-i-ne0
returns-then-words-i-ne0 c = (λ _. meet_in_row c.args.words.now c.args.others.now c.loop-i.i (c.type_inv.words c.loop-i.i).fits c.if-words-i-ne0.true, λ _. search rules)

pub loop-i-preserved : goal.loop-i-preserved
loop-i-preserved c = λ k below. elim (cases_lt k (32 * c.loop-i.i)) [
  | inl before ↦ c.loop-i.invariant k before
  | inr inside ↦
      let row : k / 32 ≡ c.loop-i.i = omega (arith, below, inside) in
      apart_in_row c.args.words.now c.args.others.now k (rw row c.if-words-i-ne0.false)
]

pub returns : goal.returns
returns c = (
  λ never. absurd (false≢true never),
  λ meet. absurd (apart_all c.args.words.now c.args.others.now (32 * c.loop-i.i) (omega arith) c.loop-i.invariant meet),
)
