-- Rewritings of pods that come in two parts.
use Rattle.std.proofs.Common.{◌≡◌, ◌+◌, ℕ, List, [], ◌++◌, arith, refl, sym, ap, ap₂, ◌∙◌, append_assoc}
use Rattle.spa_format.specs.Encoding.{encoding_of, member_encodings}
use Rattle.spa_format.specs.Tree.{Trees, no_trees, member, join_members}
use Rattle.spa_format.proofs.Sequences.{members_joined}
use Rattle.spa_pod_commands.specs.Answers.{Rewrites}

pub encodings_joined : (vs ws : Trees) → member_encodings (join_members vs ws) ≡ member_encodings vs ++ member_encodings ws
encodings_joined no_trees ws = refl
encodings_joined (member v vs) ws =
    ap (λ l. encoding_of v ++ l) (encodings_joined vs ws) ∙ sym (append_assoc (encoding_of v) (member_encodings vs) (member_encodings ws))

-- these are the rewritings of pods, and none of them is refused
abbrev pub RewritesAll : (pods out : List ℕ) → (refused : ℕ) → Type 0
RewritesAll pods out refused = Rewrites pods out × (refused ≡ 0)

pub nothing_rewritten : RewritesAll [] [] 0
nothing_rewritten = ((no_trees, refl, refl), refl)

pub rewritten_more : (first others out more : List ℕ) (m n : ℕ) → RewritesAll first out m → RewritesAll others more n →
    RewritesAll (first ++ others) (out ++ more) (m + n)
rewritten_more first others out more m n h k =
    let f = h.0 in
    let o = k.0 in
    let i = h.1 in
    let j = k.1 in (
      (join_members f.0 o.0, members_joined f.0 o.0 first others f.1 o.1, ap₂ (λ x y. x ++ y) f.2 o.2 ∙ sym (encodings_joined f.0 o.0)),
      omega (arith, i, j),
    )
