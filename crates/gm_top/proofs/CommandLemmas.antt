-- The words of a command line ask for one command at most.
use Rattle.std.proofs.Common.{◌≡◌, ◌∙◌, ◌<◌, ◌≤◌, ◌^◌, ℕ, true, false, List, [], ◌∷◌, codes, refl, ap, sym, decimal, arith}
use Rattle.std.specs.Str.Parse.{digits_value}
use Rattle.gm_text.proofs.DecimalLemmas.{digits_value_decimal}
use Rattle.gm_top.specs.declared.commands.Command.{Command}
use Rattle.gm_top.specs.declared.commands.Command.TheVariants.{Translate, Generate, Sample}
use Rattle.gm_top.specs.Command.{IsCommand, CanBeAsked, reads, Reads}

second_word : (a b : List ℕ) (c d : List ℕ) → ◌≡◌ {A = List (List ℕ)} (a ∷ b ∷ []) (c ∷ d ∷ []) → b ≡ d
second_word a b c d same = cc

one_and_two : (a b c : List ℕ) → ◌≡◌ {A = List (List ℕ)} (a ∷ []) (b ∷ c ∷ []) → ⊥
one_and_two a b c same = cc

not_both : (b d : List ℕ) → ◌≡◌ {A = List (List ℕ)} (codes "generate" ∷ b ∷ []) (codes "sample" ∷ d ∷ []) → ⊥
not_both b d same = cc

small : (k : ℕ) → k ≤ 100 → k < 2 ^ 64
small k few = omega (arith, few)

pub IsCommand-same : (words : List (List ℕ)) (c d : Command) → IsCommand c words → IsCommand d words → c ≡ d
IsCommand-same words Translate Translate p q = refl
IsCommand-same words Translate (Generate seed) p q = absurd (one_and_two _ _ _ (sym p ∙ q.1))
IsCommand-same words (Generate seed) Translate p q = absurd (one_and_two _ _ _ (sym q ∙ p.1))
IsCommand-same words Translate (Sample k) p q = absurd (one_and_two _ _ _ (sym p ∙ q.2))
IsCommand-same words (Sample k) Translate p q = absurd (one_and_two _ _ _ (sym q ∙ p.2))
IsCommand-same words (Generate seed) (Sample k) p q = absurd (not_both _ _ (sym p.1 ∙ q.2))
IsCommand-same words (Sample k) (Generate seed) p q = absurd (not_both _ _ (sym q.1 ∙ p.2))
IsCommand-same words (Sample j) (Sample k) p q =
    let same : decimal j ≡ decimal k = second_word _ _ _ _ (sym p.2 ∙ q.2) in
    ap (λ n. Sample n) (sym (digits_value_decimal j (small j p.1)) ∙ ap (digits_value 10) same ∙ digits_value_decimal k (small k q.1))
IsCommand-same words (Generate s) (Generate t) p q =
    let same : decimal s ≡ decimal t = second_word _ _ _ _ (sym p.1 ∙ q.1) in
    ap (λ seed. Generate seed) (sym (digits_value_decimal s p.0) ∙ ap (digits_value 10) same ∙ digits_value_decimal t q.0)

-- a command that the words ask for, where they ask for none that reads
pub reads-not : (words : List (List ℕ)) (command : Command) → IsCommand command words → ¬ Reads words → reads command ≡ false
reads-not words Translate asked none = absurd (none (Translate, asked, refl))
reads-not words (Generate seed) asked none = absurd (none (Generate seed, asked, refl))
reads-not words (Sample k) asked none = refl

-- a command that the words ask for reads, where they ask for one that does
pub reads-so : (words : List (List ℕ)) (command : Command) → IsCommand command words → Reads words → reads command ≡ true
reads-so words command asked (other, so, reading) = ap reads (IsCommand-same words command other asked so) ∙ reading

pub asked-can : (words : List (List ℕ)) (command : Command) → IsCommand command words → CanBeAsked command
asked-can words Translate asked = tt
asked-can words (Generate seed) asked = asked.0
asked-can words (Sample k) asked = (asked.0, asked.1)
