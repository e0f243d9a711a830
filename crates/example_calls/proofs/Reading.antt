-- A format, by its numbers, and what is read of it.
use Rattle.std.proofs.Common.{◌≡◌, ℕ, ◌++◌, [], List, sym, ap, ◌∙◌, subst, Ok, Err}
use Rattle.std.specs.Prelude.{IfErr, IsOkAnd, MatchResult, Result}
use Rattle.std.proofs.lemmas.List.{append-nil}
use Rattle.libspa.specs.Encoding.{encoding_of}
use Rattle.libspa.specs.Front.{Begins}
use Rattle.libspa.specs.Tree.{Tree}
use Rattle.libspa.specs.Id.{Id}
use Rattle.libspa.specs.Rectangle.{Rectangle}
use Rattle.libspa.specs.Fraction.{Fraction}
use Rattle.example_calls.specs.declared.video.VideoFormat.{VideoFormat}

made_of : (l w h n d : ℕ) → VideoFormat
made_of l w h n d =
    record { layout = record { 0 = l }; size = record { width = w; height = h }; rate = record { num = n; denom = d } }

pub same_format : (x : Id) (y : Rectangle) (z : Fraction) (f : VideoFormat) →
    x.0 ≡ f.layout.0 → (y.width ≡ f.size.width) × (y.height ≡ f.size.height) →
    (z.num ≡ f.rate.num) × (z.denom ≡ f.rate.denom) →
    (let g : VideoFormat = record { layout = x; size = y; rate = z } in g) ≡ f
unfolding made_of
same_format x y z f a b c =
    ap (λ v. made_of v y.width y.height z.num z.denom) a
    ∙ ap (λ v. made_of f.layout.0 v y.height z.num z.denom) b.0
    ∙ ap (λ v. made_of f.layout.0 f.size.width v z.num z.denom) b.1
    ∙ ap (λ v. made_of f.layout.0 f.size.width f.size.height v z.denom) c.0
    ∙ ap (λ v. made_of f.layout.0 f.size.width f.size.height f.rate.num v) c.1

pub is_front : (v : Tree) (b : List ℕ) → b ≡ encoding_of v → Begins (encoding_of v ++ []) v → Begins b v
is_front v b e p = subst (λ c. Begins c v) (append-nil (encoding_of v) ∙ sym e) p

pub not_refused : {A E : Type 0} (r : Result A E) (P : A → Type 0) (Q : E → Type 0) → IsOkAnd r P → IfErr r Q
not_refused (Ok x) P Q h = tt
not_refused (Err e) P Q h = absurd h

pub matched : {A E : Type 0} (r : Result A E) (P : A → Type 0) (Q : E → Type 0) → IsOkAnd r P →
    MatchResult r P Q
matched (Ok x) P Q h = h
matched (Err e) P Q h = absurd h
