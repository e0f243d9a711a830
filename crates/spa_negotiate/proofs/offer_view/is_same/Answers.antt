use Rattle.std.proofs.Common.{◌≡◌, ◌∙◌, sym, subst, take, arith}
use Rattle.std.proofs.lemmas.Bool.{eqb-true}
use Rattle.spa_format.specs.Typed.{IsBytes}
use Rattle.spa_negotiate.proofs.OfferViews.{same_words, same_wides}
use Rattle.spa_negotiate.proofs.offer_view.is_same.Goals as goal

pub returns-in-4 : goal.returns-in-4
returns-in-4 c = λ e.
    let first : IsBytes c.args.value.now = λ i. omega (arith, c.type_inv.value i) in
    let second : IsBytes c.args.other.now = λ i. omega (arith, c.type_inv.other i) in
    let word = sym c.u32_at.ensures ∙ eqb-true _ _ e ∙ c.u32_at-in-4.ensures in
    let is = c.in-4.is in
    let same = same_words _ _ first second (omega arith) (omega arith) word in
    subst (λ n. take n c.args.value.now ≡ take n c.args.other.now) (sym is) same

pub returns-in-8 : goal.returns-in-8
returns-in-8 c = λ e.
    let first : IsBytes c.args.value.now = λ i. omega (arith, c.type_inv.value i) in
    let second : IsBytes c.args.other.now = λ i. omega (arith, c.type_inv.other i) in
    let wide = sym c.u64_at.ensures ∙ eqb-true _ _ e ∙ c.u64_at-in-8.ensures in
    let is = c.in-8.is in
    let same = same_wides _ _ first second (omega arith) (omega arith) wide in
    subst (λ n. take n c.args.value.now ≡ take n c.args.other.now) (sym is) same
