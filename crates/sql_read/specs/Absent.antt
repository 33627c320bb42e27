-- What does not stand at the front of tokens.
use Rattle.std.specs.Prelude.{◌≡◌, Bool, true, false, ◌&&◌, List, ◌∷◌}
use Rattle.std.specs.List.{list_all}
use Rattle.sql_read.specs.declared.tokens.Mark.TheVariants.{From, Where, And, Comma}
use Rattle.sql_read.specs.Tokens.{Token, Fixed}
use Rattle.sql_read.specs.Grammar.{Col, Reading, is_full, tokens_of_text, some, listed, columns_then}

abbrev pub NotFirst : Token → List Token → Type 0
NotFirst t ts = (us : List Token) → ts ≡ t ∷ us → ⊥

-- no such part stands at the front
abbrev pub NoPart : {A : Type 0} → (A → List Token → List Token) → List Token → Type 0
NoPart {A = A} part ts = (x : A) (us : List Token) → ts ≡ part x us → ⊥

-- nor one that passes a test, before tokens that pass another
abbrev pub NoGood : {A : Type 0} → (A → List Token → List Token) → (A → Bool) → (List Token → Bool) → List Token → Type 0
NoGood {A = A} part good clear ts = (x : A) (us : List Token) → good x ≡ true → clear us ≡ true → ts ≡ part x us → ⊥

abbrev pub any : {A : Type 0} → A → Bool
any x = true

-- what may follow anything
abbrev pub always : List Token → Bool
always ts = true

abbrev pub good_list : {A : Type 0} → (A → Bool) → List A → Bool
good_list good xs = some xs && list_all good xs

-- no list of such parts stands at the front
abbrev pub NoList : {A : Type 0} → (A → List Token → List Token) → (A → Bool) → (List Token → Bool) → Token → List Token → Type 0
NoList {A = A} part good clear separator ts = (xs : List A) (rest : List Token) → good_list good xs ≡ true → clear rest ≡ true
    → NotFirst separator rest → ts ≡ listed part separator xs rest → ⊥

-- a select may end before these tokens: neither a comma nor a condition stands next
abbrev pub ends_query : List Token → Bool
ends_query (Fixed Comma ∷ ts) = false
ends_query (Fixed Where ∷ ts) = false
ends_query (Fixed And ∷ ts) = false
ends_query ts = true

-- nothing that a select may select stands before `FROM`
abbrev pub NoColumns : List Token → Type 0
NoColumns ts = (cs : List Col) (us : List Token) → ts ≡ columns_then cs (Fixed From ∷ us) → ⊥

-- the tokens are those of no text
abbrev pub NoReading : List Token → Type 0
NoReading ts = (r : Reading) → is_full r ≡ true → ts ≡ tokens_of_text r → ⊥
