use Rattle.std.proofs.Common.{Some, ◌≡◌, ◌<◌, ◌≤◌, ◌+◌, true, false, length, refl, sym, ap, ◌∙◌, arith}
use Rattle.std.proofs.lemmas.Grind.{common_steps}
use Rattle.std.proofs.lemmas.List.{length-map}
use Rattle.query_terms.specs.Values.{ConjunctValue}
use Rattle.workload_text.specs.Forms.{read_union}
use Rattle.workload_text.specs.Values.{is_short_union}
use Rattle.workload_text.specs.Union.{union_of, IsFacts}
use Rattle.workload_text.specs.Heads.{ends_of}
use Rattle.workload_text.specs.declared.sorts.Sort.TheVariants.{Conjunct}
use Rattle.workload_text.specs.declared.state.Reading.{Reading}
use Rattle.workload_text.specs.State.{sofar_of}
use Rattle.workload_text.proofs.StateLemmas.{refused, within_limits, out_of_limits, broken_is, put_conjunct, conjunct_usable, conjunct_value}
use Rattle.workload_text.proofs.state.Reading.conjunct.Goals as goal

pub returns-in_default-2 : goal.returns-in_default-2
returns-in_default-2 c =
    let short : is_short_union (length c.args.self.now.front.edges.items) (union_of c.args.words.now) ≡ false =
    sym (rw (c.in_default-2.is, c.deref.ensures.value) at c.in_ok-facts.ensures.short) in
    refused _ _ _ (out_of_limits (sofar_of c.args.self.now) c.args.src.now c.args.trg.now c.args.star (read_union c.args.words.now) short)

pub returns-in-Some-broken_by : goal.returns-in-Some-broken_by
returns-in-Some-broken_by c =
    let s = sofar_of c.args.self.now in
    let ends : length c.args.self.now.ends.items ≡ length c.args.self.now.builder.conjuncts =
    ap length c.requires.usable.ends ∙ length-map c.args.self.now.builder.conjuncts ends_of in
    let room : length c.args.self.now.builder.conjuncts < 8 = grind (arith, common_steps) in
    let short : is_short_union (length c.args.self.now.front.edges.items) (union_of c.args.words.now) ≡ true =
    sym (rw (c.in-Some-2.is, c.deref.ensures.value) at c.in_ok-facts.ensures.short) in
    let facts : IsFacts c.args.self.now.front.edges.items (union_of c.args.words.now) c.in-Some-2.facts =
    rw (c.in-Some-2.is, c.deref.ensures.value) at c.in_ok-facts.ensures.facts in
    let within = within_limits s c.args.src.now c.args.trg.now c.args.star (read_union c.args.words.now) room
    (omega (arith, c.in-Some.ensures.0, c.in-Some.ensures.1)) (omega (arith, c.in-Some-number_below.ensures.0, c.in-Some-number_below.ensures.1)) short in
    let broken = broken_is s c.args.src.now c.args.trg.now c.args.star (read_union c.args.words.now) c.in-Some-2.facts within facts in
    record { broken = sym c.in-Some-broken_by.is ∙ c.broken_by.ensures ∙ broken; usable = λ e. cc e; value = λ e. cc e }

pub returns : goal.returns
returns c =
    let old = c.args.self.now in
    let new : Reading = record old { last = Some Conjunct; builder = c.end_conjunct.new.self; ends = c.push.new.self } in
    let conjunct : ConjunctValue = record { src = c.in-Some.src; trg = c.in-Some-number_below.trg; star = c.args.star; words = union_of c.args.words.now } in
    let ends : length old.ends.items ≡ length old.builder.conjuncts = ap length c.requires.usable.ends ∙ length-map old.builder.conjuncts ends_of in
    let room : length old.builder.conjuncts < 8 = grind (arith, common_steps) in
    let short : is_short_union (length old.front.edges.items) (union_of c.args.words.now) ≡ true =
    sym (rw (c.in-Some-2.is, c.deref.ensures.value) at c.in_ok-facts.ensures.short) in
    let facts : IsFacts old.front.edges.items (union_of c.args.words.now) c.in-Some-2.facts =
    rw (c.in-Some-2.is, c.deref.ensures.value) at c.in_ok-facts.ensures.facts in
    let within = within_limits (sofar_of old) c.args.src.now c.args.trg.now c.args.star (read_union c.args.words.now) room
    (omega (arith, c.in-Some.ensures.0, c.in-Some.ensures.1)) (omega (arith, c.in-Some-number_below.ensures.0, c.in-Some-number_below.ensures.1)) short in
    let broken = broken_is (sofar_of old) c.args.src.now c.args.trg.now c.args.star (read_union c.args.words.now) c.in-Some-2.facts within facts in
    let before = rw c.in-Some-2.is at c.in_ok-facts.ensures.put in
    let more : c.put_union.new.builder.taken ≤ old.builder.taken + 256 = rw c.in-Some-2.is at c.in_ok-facts.ensures.taken in
    let put = put_conjunct old.builder c.put_union.new.builder c.end_conjunct.new.self c.in-Some.src c.in-Some-number_below.trg c.args.star (union_of c.args.words.now)
    before c.in_ok-end_conjunct.ensures in
    let taken : c.end_conjunct.new.self.taken ≤ old.builder.taken + 256 = omega (arith, more, ap (λ b. b.taken) c.in_ok-end_conjunct.ensures) in
    record {
      broken = sym c.in_default-broken_by.is ∙ c.broken_by.ensures ∙ broken;
      usable = λ _. conjunct_usable old new c.requires.usable c.requires.rule conjunct refl put c.in_ok-push.ensures.items room taken;
      value = λ _. conjunct_value old new c.requires.usable c.requires.rule conjunct refl put c.in_ok-push.ensures.items room taken c.args.src.now c.args.trg.now c.args.star
          (read_union c.args.words.now) (λ i. record {
            src = sym c.in-Some.ensures.0 i;
            trg = sym c.in-Some-number_below.ensures.0 i;
            star = c.args.star;
            words = union_of c.args.words.now;
          });
    }
