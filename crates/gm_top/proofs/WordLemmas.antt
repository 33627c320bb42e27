-- A list of one word.
use Rattle.std.proofs.Common.{◌≡◌, ◌↔◌, ℕ, Bool, true, false, List, [], ◌∷◌, length, get_or, map, refl, ap, sym, ◌∙◌, IsTrue, nat_eq, MatchBool, arith}
use Rattle.std.specs.Cmp.Lexicographic.{told_text}
use lib.Pointwise.{pointwise}

pub iff-MatchBool : (test : Bool) {P Q : Type 0} → MatchBool test P (¬ P) → (P → Q) → (Q → P) → IsTrue test ↔ Q
iff-MatchBool true told there back = (λ _. there told, λ _. refl)
iff-MatchBool false told there back = (λ is. cc, λ q. absurd (told (back q)))

-- a test of the one word tells whether the list has just this name
pub one_word : {A : Type 0} (name_of : A → List ℕ) (words : List A) (word : A) (name : List ℕ) (test : Bool)
    → length words ≡ 1 → word ≡ get_or words 0 word → test ≡ pointwise nat_eq (name_of word) name → IsTrue test ↔ (map name_of words ≡ name ∷ [])
one_word name_of [] word name test one is tested = cc
one_word name_of (first ∷ second ∷ words) word name test one is tested = absurd (omega arith)
one_word name_of (first ∷ []) word name test one is tested =
    iff-MatchBool test (told_text (name_of word) name test tested) (λ same. ap (λ w. name_of w ∷ []) (sym is) ∙ ap (λ bytes. bytes ∷ []) same) (λ same. cc)
