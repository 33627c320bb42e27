use Rattle.std.proofs.Common.{ap, sym, ◌∙◌, arith}
use Rattle.std.specs.Str.Parse.{digits_value}
use Rattle.std.proofs.lemmas.Fmt.{decimal_injective}
use Rattle.gm_text.specs.Decimal.{IsCanonical}
use Rattle.gm_text.specs.declared.decimals.Decimal.TheVariants.{Value, Big}
use Rattle.gm_text.proofs.DecimalLemmas.{decimal_is_canonical, canonical_is_utf8, digits_value_decimal, parsed_value, parsed_big}
use Rattle.gm_text.proofs.decimals.read_decimal.Goals as goal

pub returns-then-not-is_canonical-clause-every_value :
    goal.returns-then-not-is_canonical-clause-every_value
returns-then-not-is_canonical-clause-every_value c n small is =
    let canonical : IsCanonical c.args.word.now = rw is (decimal_is_canonical n small) in cc

pub unreachable-requires : goal.unreachable-requires
unreachable-requires c = c.in_default.ensures.cases.0 (canonical_is_utf8 _ (sym c.if-not-is_canonical.ensures))

pub returns-in-Ok-parse-clause-value : goal.returns-in-Ok-parse-clause-value
returns-in-Ok-parse-clause-value c =
    (parsed_value _ _ c.in-Ok.ensures.cases.0 (sym c.if-not-is_canonical.ensures) _ c.in-Ok-parse.ensures.value.0).1

pub returns-in-Ok-parse-clause-every_value : goal.returns-in-Ok-parse-clause-every_value
returns-in-Ok-parse-clause-every_value c n small is =
    let read = parsed_value _ _ c.in-Ok.ensures.cases.0 (sym c.if-not-is_canonical.ensures) _ c.in-Ok-parse.ensures.value.0 in
    ap Value (decimal_injective _ n read.0 small (sym read.1 ∙ is))

pub returns-in-Err-clause-every_value : goal.returns-in-Err-clause-every_value
returns-in-Err-clause-every_value c n small is =
    let big = parsed_big _ _ c.in-Ok.ensures.cases.0 (sym c.if-not-is_canonical.ensures) c.in-Err.ensures.value.0 in
    absurd (omega (arith, big, ap (digits_value 10) is, digits_value_decimal n small))

pub returns-in-Err-clause-big : goal.returns-in-Err-clause-big
returns-in-Err-clause-big c =
    let canonical = sym c.if-not-is_canonical.ensures in
    let big = parsed_big _ _ c.in-Ok.ensures.cases.0 canonical c.in-Err.ensures.value.0 in
    (λ _. (canonical, big), λ _ i. Big)
