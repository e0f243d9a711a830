-- Two values that admit no value both, by their pods.
use Rattle.std.proofs.Common.{◌≡◌, ◌≢◌, ℕ, ◌<◌, List, [], ◌∷◌, take, drop, refl, sym, ap, ◌∙◌, subst, arith}
use Rattle.std.specs.List.{All}
use Rattle.std.proofs.lemmas.List.Elements.{All-cons, All-nil, All-contains}
use Rattle.spa_format.specs.Words.{word_at}
use Rattle.spa_format.specs.Kind.{Kind, none_kind, bool_kind, id_kind, int_kind, long_kind, float_kind, double_kind, rectangle_kind, fraction_kind, fd_kind, Fixed, body_size, kind_of, type_number}
use Rattle.spa_format.specs.Tree.{Shape, none_choice, range_choice, step_choice, enum_choice, flags_choice, Tree, fixed, choice, choice_type, type_of}
use Rattle.spa_format.specs.Pod.{AreElements, IsBody, IsChoice, values_taken}
use Rattle.spa_format.proofs.FixedKinds.{kind_of_content, number_is}
use Rattle.spa_format.proofs.Shapes.{choice_only}
use Rattle.spa_format.proofs.WordLemmas.{word_at-drop}
use Rattle.spa_filter_elements.proofs.Order.{kind_of-ordered}
use Rattle.spa_filter_elements.proofs.Masks.{kind_of-among}
use Rattle.spa_filter_offers.specs.Admits.{Admits, AdmitsContent, HasCommon}
use Rattle.spa_filter.specs.CommonPods.{HasBody, IsCommonRefused, IsOfferRefused, IsOfOtherType}
use Rattle.spa_filter.specs.declared.refused.Refused.{Refused}
use Rattle.spa_filter.specs.declared.refused.Refused.TheVariants.{Apart, TooLarge, OutOfMemory}
use Rattle.spa_filter.proofs.CommonPods.{plain_tree, plain_typed}
use Rattle.spa_filter.proofs.Swapping.{AreApart-swapped}

-- each element of a body is of its kind
all_kinds : (k : Kind) (xs : List Fixed) (b : List ℕ) → AreElements k xs b → All (λ y. kind_of y ≡ k) xs
all_kinds k [] b h = All-nil (λ y. kind_of y ≡ k)
all_kinds k (x ∷ xs) b h =
    All-cons (λ y. kind_of y ≡ k) x xs (ap kind_of h.1.says ∙ kind_of_content k (take (body_size k) b)) (all_kinds k xs (drop (body_size k) b) h.2)

first_kind : (k : Kind) (x : Fixed) (xs : List Fixed) (b : List ℕ) → AreElements k (x ∷ xs) b → kind_of x ≡ k
first_kind k x xs b h = ap kind_of h.1.says ∙ kind_of_content k (take (body_size k) b)

in_range : (k : Kind) (d x : Fixed) (all : List Fixed) (b : List ℕ) → AreElements k all b → AdmitsContent range_choice d (take 2 all) x → kind_of x ≡ k
in_range k d x [] b e h = absurd h
in_range k d x (low ∷ []) b e h = absurd h
in_range k d x (low ∷ high ∷ all) b e h = sym (kind_of-ordered low x h.0) ∙ first_kind k low (high ∷ all) b e

in_steps : (k : Kind) (d x : Fixed) (all : List Fixed) (b : List ℕ) → AreElements k all b → AdmitsContent step_choice d (take 3 all) x → kind_of x ≡ k
in_steps k d x [] b e h = absurd h
in_steps k d x (low ∷ []) b e h = absurd h
in_steps k d x (low ∷ high ∷ []) b e h = absurd h
in_steps k d x (low ∷ high ∷ step ∷ all) b e h = sym (kind_of-ordered low x h.0.0) ∙ first_kind k low (high ∷ step ∷ all) b e

-- what a choice admits is of its kind
kind_admitted : (s : Shape) (k : Kind) (d x : Fixed) (vs all : List Fixed) (b : List ℕ) → vs ≡ values_taken s all → AreElements k (d ∷ all) b →
    AdmitsContent s d vs x → kind_of x ≡ k
kind_admitted none_choice k d x vs all b t e h = ap kind_of h ∙ first_kind k d all b e
kind_admitted range_choice k d x vs all b t e h = in_range k d x all _ e.2 (subst (λ ys. AdmitsContent range_choice d ys x) t h)
kind_admitted step_choice k d x vs all b t e h = in_steps k d x all _ e.2 (subst (λ ys. AdmitsContent step_choice d ys x) t h)
kind_admitted enum_choice k d x vs all b t e h =
    All-contains (λ y. kind_of y ≡ k) (d ∷ all) x (all_kinds k (d ∷ all) b e) (subst (λ ys. AdmitsContent enum_choice d ys x) t h)
kind_admitted flags_choice k d x vs all b t e h = kind_of-among x d h ∙ first_kind k d all b e

-- what is said of a choice by its body
pub record IsChoiceBody (w : Tree) (b : List ℕ) : Type 0 where
  pub shape : Shape
  pub flags : ℕ
  pub kind : Kind
  pub default : Fixed
  pub values : List Fixed
  pub its : w ≡ choice shape flags kind default values
  pub content : IsChoice shape flags kind default values b

pub choice_body : (w : Tree) (b : List ℕ) → HasBody w choice_type b → IsChoiceBody w b
choice_body w b h =
    let c = choice_only w h.its_type in
    record {
      shape = c.0;
      flags = c.1;
      kind = c.2;
      default = c.3;
      values = c.4;
      its = c.5;
      content = subst (λ t. IsBody t b) c.5 h.content;
    }

-- the type of a choice's values
pub choice_kind : (w : Tree) (b : List ℕ) (c : IsChoiceBody w b) → word_at b 12 ≡ type_number c.kind
choice_kind w b c = sym (word_at-drop 8 4 b) ∙ c.content.values.child_type

admitted_of : (s : Shape) (f : ℕ) (k : Kind) (d : Fixed) (vs : List Fixed) (b : List ℕ) → IsChoice s f k d vs b → (x : Tree) → Admits (choice s f k d vs) x →
    type_of x ≡ type_number k
admitted_of s f k d vs b c (fixed x) h = ap type_number (kind_admitted s k d x vs c.all _ c.first c.values.elements h)
admitted_of s f k d vs b c x h = absurd h

-- what a choice admits is of that type
pub admitted_type : (w x : Tree) (b : List ℕ) → HasBody w choice_type b → Admits w x → type_of x ≡ word_at b 12
admitted_type w x b h a =
    let c = choice_body w b h in
    admitted_of c.shape c.flags c.kind c.default c.values b c.content x (subst (λ t. Admits t x) c.its a) ∙ sym (choice_kind w b c)

-- a plain value and a choice have one in common of the plain value's type,
pub plain_common : (v w : Tree) (type : ℕ) (b c : List ℕ) → type ≢ choice_type → HasBody v type b → HasBody w choice_type c → HasCommon v w →
    type ≡ word_at c 12
plain_common v w type b c n h i e =
    let plain = plain_tree v (plain_typed v (λ t. n (sym h.its_type ∙ t))) in
    let same = plain.alone e.0 e.1.0 in
    sym h.its_type ∙ ap type_of (sym same) ∙ admitted_type w e.0 c i e.1.1

-- and two choices have one of the type of both
pub choices_common : (v w : Tree) (b c : List ℕ) → HasBody v choice_type b → HasBody w choice_type c → HasCommon v w → word_at b 12 ≡ word_at c 12
choices_common v w b c h i e = sym (admitted_type v e.0 b h e.1.0) ∙ admitted_type w e.0 c i e.1.1

-- the type of a content isn't that of choices
pub element_type : (n : ℕ) (k : Kind) → n ≡ type_number k → n ≢ choice_type
element_type n k e h = let i = number_is k in grind arith

-- a number of no kind over which there are choices
pub no_element : (k : Kind) → 0 < body_size k → type_number k ≢ 2 → type_number k ≢ 3 → type_number k ≢ 4 → type_number k ≢ 5 → type_number k ≢ 6 →
    type_number k ≢ 7 → type_number k ≢ 10 → type_number k ≢ 11 → type_number k ≢ 18 → ⊥
no_element none_kind l a b c d e f g h i = omega arith
no_element bool_kind l a b c d e f g h i = a refl
no_element id_kind l a b c d e f g h i = b refl
no_element int_kind l a b c d e f g h i = c refl
no_element long_kind l a b c d e f g h i = d refl
no_element float_kind l a b c d e f g h i = e refl
no_element double_kind l a b c d e f g h i = f refl
no_element rectangle_kind l a b c d e f g h i = g refl
no_element fraction_kind l a b c d e f g h i = h refl
no_element fd_kind l a b c d e f g h i = i refl

-- a word that isn't the type of a choice's values
pub no_choice_over : (w : Tree) (b : List ℕ) (n : ℕ) → n ≡ word_at b 12 → n ≢ 2 → n ≢ 3 → n ≢ 4 → n ≢ 5 → n ≢ 6 → n ≢ 7 → n ≢ 10 → n ≢ 11 → n ≢ 18 →
    HasBody w choice_type b → ⊥
no_choice_over w b n is n2 n3 n4 n5 n6 n7 n10 n11 n18 h =
    let c = choice_body w b h in
    let same : n ≡ type_number c.kind = is ∙ choice_kind w b c in
    no_element c.kind c.content.values.elements.0 (λ e. n2 (same ∙ e)) (λ e. n3 (same ∙ e)) (λ e. n4 (same ∙ e)) (λ e. n5 (same ∙ e))
    (λ e. n6 (same ∙ e)) (λ e. n7 (same ∙ e)) (λ e. n10 (same ∙ e)) (λ e. n11 (same ∙ e)) (λ e. n18 (same ∙ e))

-- a plain value and a choice over another type
pub refused_plain : (type other : ℕ) (b c : List ℕ) (e : Refused) → type ≡ other → type ≢ choice_type → IsOfOtherType other c e →
    (v w : Tree) → HasBody v type b → HasBody w choice_type c → IsOfferRefused v w e
refused_plain type other b c Apart same n o v w h i = λ s k. o w i (sym (plain_common v w type b c n h i k) ∙ same)
refused_plain type other b c TooLarge same n o v w h i = absurd o
refused_plain type other b c OutOfMemory same n o v w h i = tt

-- two choices over two types
pub refused_choices : (type : ℕ) (b c : List ℕ) (e : Refused) → word_at b 12 ≡ type → IsOfOtherType type c e →
    (v w : Tree) → HasBody v choice_type b → HasBody w choice_type c → IsCommonRefused v w e
refused_choices type b c Apart t o v w h i = λ s k. o w i (sym (choices_common v w b c h i k) ∙ t)
refused_choices type b c TooLarge t o v w h i = absurd o
refused_choices type b c OutOfMemory t o v w h i = tt

-- what a choice doesn't offer isn't in both,
pub refused_first : (v w : Tree) (e : Refused) → IsOfferRefused v w e → IsCommonRefused v w e
refused_first v w Apart r = r
refused_first v w TooLarge r = absurd r
refused_first v w OutOfMemory r = tt

-- in either order
pub refused_second : (v w : Tree) (e : Refused) → IsOfferRefused w v e → IsCommonRefused v w e
refused_second v w Apart r = AreApart-swapped w v r
refused_second v w TooLarge r = absurd r
refused_second v w OutOfMemory r = tt
