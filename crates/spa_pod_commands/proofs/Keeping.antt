-- Known bytes that stay, and then stay or grow.
use Rattle.std.specs.Io.KnownBytes.{Appends, Keeps}
use Rattle.std.proofs.Common.{◌≡◌, ◌≤◌, ℕ, ◌+◌, length-append, length-drop, drop, List, Option, refl, sym, inl, inr, arith, take, length, ◌∙◌, ap, subst}
use Rattle.std.specs.Borrow.{Bor}
use Rattle.std.specs.Prelude.{Result, Ok, Err, OnOk, IfErr, OnErr}
use Rattle.std.proofs.lemmas.Bool.{cases_lt}
use Rattle.std.proofs.lemmas.List.{nil_from_length, take_all}
use Rattle.std.proofs.KnownBytes.{Keeps-refl, Keeps-trans, Appends-kept}
use Rattle.spa_format.specs.Tree.{Trees}
use Rattle.spa_format.specs.Pod.{AreMembers}
use Rattle.spa_bodies.specs.Reading.{OnFault}
use Rattle.spa_fixed_sized.specs.Faults.{kind_text}
use Rattle.spa_fixed_sized.specs.declared.fault.DeserializeError.{DeserializeError}
use Rattle.spa_fixed_sized.specs.declared.fault.DeserializeError.TheVariants as error
use Rattle.spa_canonical.specs.Rewriting.{IsLeft, RefusesFront}
use Rattle.spa_device.specs.Whole.{IsAllOf}
use Rattle.spa_pod_commands.specs.Answers.{Answers, BeginsToWrite, FailsFor, IsCutOff, IsNotListed, IsRefusalAt, IsUndone, IsUnmade, OnAnswer, Writes}
use Rattle.spa_pod_commands.specs.declared.answer.Answer.{Answer}
use Rattle.spa_pod_commands.specs.declared.answer.Failure.{Failure}
use Rattle.spa_pod_commands.specs.declared.answer.Failure.TheVariants.{Pod, OutOfMemory, ReadFailed, WriteFailed}

-- so many first bytes are followed by something
pub some_left : (input : List ℕ) (place : ℕ) → IsLeft input (drop place input) → place + length (drop place input) ≡ length input
some_left input place h =
    let d = length-drop place input in
    elim (cases_lt place (length input)) [
      | inl l ↦ omega arith
      | inr l ↦ absurd (h.4 (nil_from_length (drop place input) (omega arith)))
    ]

-- what is left is no longer than the whole
pub left_fits : (input left : List ℕ) → IsLeft input left → length left ≤ length input
left_fits input left h = let e = ap length h.2 in let l = length-append h.1 left in omega (arith, e, l)

-- where the input isn't pods one after another, its refusal is this
at_place : (input left : List ℕ) (place : ℕ) (name : List ℕ) (cause : DeserializeError (Bor (List ℕ))) (why : Failure) → IsLeft input left →
    place + length left ≡ length input → ((vs : Trees) → ¬ (AreMembers vs input)) → RefusesFront left cause → name ≡ kind_text cause →
    IsRefusalAt place name why → IsUnmade input why
at_place input left place name cause (Pod p kind) behind eq refuses front named t = record {
  input = input;
  read = refl;
  left = left;
  behind = behind;
  its_place = subst (λ n. n + length left ≡ length input) (sym t.0) eq;
  refused = refuses;
  cause = cause;
  front = front;
  its_kind = t.1 ∙ named;
}
at_place input left place name cause OutOfMemory behind eq refuses front named t = absurd t
at_place input left place name cause ReadFailed behind eq refuses front named t = absurd t
at_place input left place name cause WriteFailed behind eq refuses front named t = absurd t

-- and so for any error, memory's among them
pub unmade : {I : Type 0} (input left : List ℕ) (place : ℕ) (e : DeserializeError I) (cause : DeserializeError (Bor (List ℕ))) (why : Failure) →
    IsLeft input left → place + length left ≡ length input → OnFault ((vs : Trees) → ¬ (AreMembers vs input)) e → RefusesFront left cause →
    kind_text e ≡ kind_text cause → FailsFor place e why → IsUnmade input why
unmade input left place error.OutOfMemory cause why behind eq refuses front named t = subst (IsUnmade input) (sym t.its) tt
unmade input left place (error.Nom f) cause why behind eq refuses front named t = at_place input left place _ cause why behind eq refuses front named t.its
unmade input left place (error.PropertyWrongKey k) cause why behind eq refuses front named t = at_place input left place _ cause why behind eq refuses front named t.its
unmade input left place error.UnsupportedType cause why behind eq refuses front named t = at_place input left place _ cause why behind eq refuses front named t.its
unmade input left place error.InvalidType cause why behind eq refuses front named t = at_place input left place _ cause why behind eq refuses front named t.its
unmade input left place error.PropertyMissing cause why behind eq refuses front named t = at_place input left place _ cause why behind eq refuses front named t.its
unmade input left place error.InvalidChoiceType cause why behind eq refuses front named t = at_place input left place _ cause why behind eq refuses front named t.its
unmade input left place error.MissingChoiceValues cause why behind eq refuses front named t = at_place input left place _ cause why behind eq refuses front named t.its
unmade input left place error.WrongSize cause why behind eq refuses front named t = at_place input left place _ cause why behind eq refuses front named t.its
unmade input left place error.UnreadMembers cause why behind eq refuses front named t = at_place input left place _ cause why behind eq refuses front named t.its
unmade input left place error.NoElementLeft cause why behind eq refuses front named t = at_place input left place _ cause why behind eq refuses front named t.its
unmade input left place error.FailedReader cause why behind eq refuses front named t = at_place input left place _ cause why behind eq refuses front named t.its

-- so the work on an input that was read whole isn't done, and nothing is written
pub unmade_undone : (Makes : List ℕ → List ℕ → Type 0) (remaining old : Option (List ℕ)) (input : List ℕ) (why : Failure) → IsAllOf remaining input →
    IsUnmade input why → IsUndone Makes remaining old old why
unmade_undone Makes remaining old input (Pod place kind) all u = (
  record {
    input = u.input;
    read = subst (IsAllOf remaining) (sym u.read) all;
    left = u.left;
    behind = u.behind;
    its_place = u.its_place;
    refused = u.refused;
    cause = u.cause;
    front = u.front;
    its_kind = u.its_kind;
  },
  Keeps-refl old,
)
unmade_undone Makes remaining old input OutOfMemory all u = Keeps-refl old
unmade_undone Makes remaining old input ReadFailed all u = absurd u
unmade_undone Makes remaining old input WriteFailed all u = absurd u

-- what stays after a write was written
pub writes_kept : (Makes : List ℕ → List ℕ → Type 0) (remaining old mid new : Option (List ℕ)) → Writes Makes remaining old mid → Keeps mid new →
    Writes Makes remaining old new
writes_kept Makes remaining old mid new w k = record {
  input = w.input;
  read = w.read;
  out = w.out;
  made = w.made;
  written = Appends-kept old mid new w.out w.written k;
}

-- and where the output fails then, all that had to be written is there
pub writes_begun : (Makes : List ℕ → List ℕ → Type 0) (remaining old mid new : Option (List ℕ)) → Writes Makes remaining old mid → Keeps mid new →
    BeginsToWrite Makes remaining old new
writes_begun Makes remaining old mid new w k = record {
  input = w.input;
  read = w.read;
  out = w.out;
  made = w.made;
  count = length w.out;
  written = subst (Appends old new) (sym (take_all (length w.out) w.out (omega arith))) (Appends-kept old mid new w.out w.written k);
}

pub undone_kept : (Makes : List ℕ → List ℕ → Type 0) (remaining old mid new : Option (List ℕ)) (why : Failure) →
    IsUndone Makes remaining old mid why → Keeps mid new → IsUndone Makes remaining old new why
undone_kept Makes remaining old mid new (Pod p kind) u k = (u.0, Keeps-trans old mid new u.1 k)
undone_kept Makes remaining old mid new OutOfMemory u k = Keeps-trans old mid new u k
undone_kept Makes remaining old mid new ReadFailed u k = Keeps-trans old mid new u k
undone_kept Makes remaining old mid new WriteFailed u k = record {
  input = u.input;
  read = u.read;
  out = u.out;
  made = u.made;
  count = u.count;
  written = Appends-kept old mid new (take u.count u.out) u.written k;
}

-- the work's answer, once the output is flushed
pub answered : {T : Type 0} (Makes : List ℕ → List ℕ → Type 0) (remaining old mid new : Option (List ℕ)) (done : Result T Failure) (answer : Answer) →
    Keeps mid new → Answers done answer → OnOk done (Writes Makes remaining old mid) → IfErr done (IsUndone Makes remaining old mid) →
    OnAnswer answer (Writes Makes remaining old new) (IsUndone Makes remaining old new)
answered Makes remaining old mid new (Ok x) answer k (inl e) w u =
    subst (λ a. OnAnswer a (Writes Makes remaining old new) (IsUndone Makes remaining old new)) (sym e) (writes_kept Makes remaining old mid new w k)
answered Makes remaining old mid new (Ok x) answer k (inr e) w u =
    subst (λ a. OnAnswer a (Writes Makes remaining old new) (IsUndone Makes remaining old new)) (sym e) (writes_begun Makes remaining old mid new w k)
answered Makes remaining old mid new (Err why) answer k e w u =
    subst (λ a. OnAnswer a (Writes Makes remaining old new) (IsUndone Makes remaining old new)) (sym e) (undone_kept Makes remaining old mid new why u k)

list_kept : (remaining old mid new : Option (List ℕ)) (why : Failure) → IsNotListed remaining old mid why → Keeps mid new → IsNotListed remaining old new why
list_kept remaining old mid new (Pod p kind) u k = (u.0, Keeps-trans old mid new u.1 k)
list_kept remaining old mid new OutOfMemory u k = tt
list_kept remaining old mid new ReadFailed u k = Keeps-trans old mid new u k
list_kept remaining old mid new WriteFailed u k = tt

pub answered_list : {T : Type 0} (Makes : List ℕ → List ℕ → Type 0) (remaining old mid new : Option (List ℕ)) (done : Result T Failure) (answer : Answer) →
    Keeps mid new → Answers done answer → OnOk done (Writes Makes remaining old mid) → IfErr done (IsNotListed remaining old mid) →
    OnAnswer answer (Writes Makes remaining old new) (IsNotListed remaining old new)
answered_list Makes remaining old mid new (Ok x) answer k (inl e) w u =
    subst (λ a. OnAnswer a (Writes Makes remaining old new) (IsNotListed remaining old new)) (sym e) (writes_kept Makes remaining old mid new w k)
answered_list Makes remaining old mid new (Ok x) answer k (inr e) w u =
    subst (λ a. OnAnswer a (Writes Makes remaining old new) (IsNotListed remaining old new)) (sym e) tt
answered_list Makes remaining old mid new (Err why) answer k e w u =
    subst (λ a. OnAnswer a (Writes Makes remaining old new) (IsNotListed remaining old new)) (sym e) (list_kept remaining old mid new why u k)

pub cut_off : (remaining old new : Option (List ℕ)) (why : Failure) → IsCutOff why → IsNotListed remaining old new why
cut_off remaining old new why (inl e) = subst (IsNotListed remaining old new) (sym e) tt
cut_off remaining old new why (inr e) = subst (IsNotListed remaining old new) (sym e) tt

-- a write of what had to be written failed
pub write_undone : {T : Type 0} (Makes : List ℕ → List ℕ → Type 0) (remaining old new : Option (List ℕ)) (r : Result T Failure) (input out : List ℕ) →
    IsAllOf remaining input → Makes input out → OnErr r ((n : ℕ) × Appends old new (take n out)) → IfErr r (λ why. why ≡ WriteFailed) →
    IfErr r (IsUndone Makes remaining old new)
write_undone Makes remaining old new (Ok x) input out all made begun cause = tt
write_undone Makes remaining old new (Err e) input out all made begun cause =
    subst (IsUndone Makes remaining old new) (sym cause)
    (record { input = input; read = all; out = out; made = made; count = begun.0; written = begun.1 })
