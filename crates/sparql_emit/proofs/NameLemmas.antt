-- Names of variables: they are letters and digits, and two variables of a rule have different ones.
use Rattle.std.proofs.Common.{◌≡◌, ℕ, zero, suc, ◌+◌, ◌<◌, ◌/◌, ◌%◌, ◌^◌, Bool, true, false, ◌==◌, if◌then◌else◌, List, [], ◌∷◌, length, decimal, drop, get_or, refl, sym, ap, ◌∙◌, arith}
use Rattle.std.specs.Fmt.{digits, digits_onto, digit_glyph}
use Rattle.std.specs.List.{list_all}
use Rattle.std.proofs.lemmas.Bool.{eqb-true, lt-ltb}
use Rattle.std.proofs.lemmas.Bool.Decides.{nat_tests}
use Rattle.std.proofs.lemmas.Fmt.{decimal_injective}
use Rattle.gm_text.specs.Name.{is_name_byte}
use Rattle.query_terms.proofs.SpanLemmas.{and_true}
use Rattle.sparql_emit.specs.QueryText.{head_name, variable_from}
use Rattle.sparql_emit.specs.Laws.{VariablesDiffer}
use Rattle.sparql_emit.proofs.Spelling.{is_variable}

glyph_passes : (d : ℕ) → d < 10 → is_name_byte (digit_glyph false d) ≡ true
glyph_passes d less = rw (lt-ltb d 10 less) (digit_passes (48 + d) (omega arith) (omega arith))
  where
    digit_passes : (b : ℕ) → 47 < b → b < 58 → is_name_byte b ≡ true
    digit_passes b more less = grind (arith, nat_tests)

-- what holds of both values holds of the one that is taken
if_both : {X : Type 0} (P : X → Type 0) (b : Bool) (x y : X) → P x → P y → P (if b then x else y)
if_both P true x y px py = px
if_both P false x y px py = py

digits_pass : (k n : ℕ) (acc : List ℕ) → list_all is_name_byte acc ≡ true → list_all is_name_byte (digits_onto k 10 false n acc) ≡ true
digits_pass zero n acc all = all
digits_pass (suc k) n acc all =
    let more : List ℕ = digit_glyph false (n % 10) ∷ acc in
    let passes : list_all is_name_byte more ≡ true = and_true (glyph_passes (n % 10) (omega arith)) all in
    if_both (λ bs. list_all is_name_byte bs ≡ true) (n / 10 == 0) more (digits_onto k 10 false (n / 10) more) passes (digits_pass k (n / 10) more passes)

decimal_passes : (n : ℕ) → list_all is_name_byte (decimal n) ≡ true
unfolding digits
decimal_passes n = digits_pass 64 n [] refl

pub head_is_variable : (j : ℕ) → is_variable (head_name j) ≡ true
head_is_variable j = decimal_passes j

pub variable_is_variable : (j : ℕ) (heads : List ℕ) (v : ℕ) → is_variable (variable_from j heads v) ≡ true
variable_is_variable j [] v = decimal_passes v
variable_is_variable j (h ∷ heads) v =
    if_both (λ bs. is_variable bs ≡ true) (h == v) (head_name j) (variable_from (j + 1) heads v) (head_is_variable j) (variable_is_variable (j + 1) heads v)

tails_same : {x y : ℕ} {xs ys : List ℕ} → ◌≡◌ {A = List ℕ} (x ∷ xs) (y ∷ ys) → xs ≡ ys
tails_same same = ap (λ (bs : List ℕ). drop 1 bs) same

-- a head's name is not that of a variable that is none of the heads before it
behind_head : (i j : ℕ) (heads : List ℕ) (w : ℕ) → i < j → j + length heads < 2 ^ 64 → head_name i ≡ variable_from j heads w → ⊥
behind_head i j [] w less few same = absurd (omega (arith, ap (λ (bs : List ℕ). get_or bs 0 0) same))
behind_head i j (h ∷ heads) w less few same =
    if_both (λ bs. head_name i ≡ bs → ⊥) (h == w) (head_name j) (variable_from (j + 1) heads w)
    (λ e. omega (arith, less, decimal_injective i j (omega (arith, less, few)) (omega (arith, few)) (tails_same e)))
    (behind_head i (j + 1) heads w (omega (arith, less)) (omega (arith, few))) same

variable_one : (j : ℕ) (heads : List ℕ) (v w : ℕ) → j + length heads < 2 ^ 64 → v < 2 ^ 64 → w < 2 ^ 64 → variable_from j heads v ≡ variable_from j heads w → v ≡ w
variable_one j [] v w few small_v small_w same = decimal_injective v w small_v small_w (tails_same same)
variable_one j (h ∷ heads) v w few small_v small_w same = go (h == v) (h == w) refl refl (variable_one (j + 1) heads v w (omega (arith, few)) small_v small_w) same
  where
    go : (a b : Bool) → (h == v) ≡ a → (h == w) ≡ b → (variable_from (j + 1) heads v ≡ variable_from (j + 1) heads w → v ≡ w)
        → (if a then head_name j else variable_from (j + 1) heads v) ≡ (if b then head_name j else variable_from (j + 1) heads w) → v ≡ w
    go true true is_v is_w later e = sym (eqb-true h v is_v) ∙ eqb-true h w is_w
    go true false is_v is_w later e = absurd (behind_head j (j + 1) heads w (omega arith) (omega (arith, few)) e)
    go false true is_v is_w later e = absurd (behind_head j (j + 1) heads v (omega arith) (omega (arith, few)) (sym e))
    go false false is_v is_w later e = later e

pub variables_differ : VariablesDiffer
variables_differ heads v w few small_v small_w same = variable_one 0 heads v w (omega (arith, few)) small_v small_w same
