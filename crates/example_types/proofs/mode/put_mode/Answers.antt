use Rattle.std.proofs.Common.{◌≡◌, ℕ, ◌+◌, ◌<◌, ◌≤◌, ◌⊎◌, ⊎_elim, Result, Ok, Err, length, refl, sym, subst, arith}
use Rattle.std.specs.Prelude.{IsOk, OnOk}
use Rattle.std.proofs.lemmas.Result.{IfErr-weaker}
use Rattle.libspa.specs.GenError.{GenError}
use Rattle.libspa.specs.GenErrors as error
use Rattle.example_types.specs.declared.mode.Mode.{Mode}
use Rattle.libspa.specs.Complete.{RefusesAtLimit}
use Rattle.libspa.specs.DeepValues.{LacksMemory}
use Rattle.libspa.specs.Depth.{depth_of}
use Rattle.libspa.specs.Encoding.{encoding_of}
use Rattle.example_types.proofs.Modes.{mode_length, mode_shallow, mode_value, mode_writable}
use Rattle.example_types.proofs.mode.put_mode.Goals as goal

-- what follows from two facts, where both hold of a success
on_ok_both : {T E A B C : Type 0} (r : Result T E) → (A → B → C) → (IsOk r → A) → (IsOk r → B) → OnOk r C
on_ok_both (Ok x) f a b = f (a refl) (b refl)
on_ok_both (Err e) f a b = tt

-- a mode doesn't nest so deep that memory is asked for
room_lacks : (held : ℕ) (m : Mode) (e : GenError) →
    LacksMemory (depth_of (mode_value m)) e ⊎ (e ≡ error.Full) × (128 < held + length (encoding_of (mode_value m))) →
    (e ≡ error.Full) × (128 < held + 64)
room_lacks held m e r =
    ⊎_elim (λ deep. absurd (omega (arith, deep.1, mode_shallow m))) (λ full. (full.0, subst (λ n. 128 < held + n) (mode_length m) full.1)) r

-- it is refused only where it doesn't fit
no_room : (held : ℕ) (m : Mode) (e : GenError) → RefusesAtLimit held 128 (mode_value m) e → (e ≡ error.Full) × (128 < held + 64)
no_room held m error.Full r = room_lacks held m error.Full r
no_room held m error.TooLarge r = absurd ((mode_writable m).fits r)
no_room held m error.NulInText r = absurd ((mode_writable m).no_nul r)
no_room held m error.WrongCount r = room_lacks held m error.WrongCount r
no_room held m error.Failed r = room_lacks held m error.Failed r
no_room held m error.Io r = room_lacks held m error.Io r
no_room held m error.OutOfMemory r = room_lacks held m error.OutOfMemory r

pub returns-clause-back : goal.returns-clause-back
returns-clause-back c =
    let w = c.declared_pods_are_written_where_they_fit.ensures in
    on_ok_both c.declared_pods_are_written_where_they_fit.result (λ t w r. c.encodings_read_back.ensures.value _ r t w) w.typed w.writable

pub returns-clause-room : goal.returns-clause-room
returns-clause-room c =
    let m = c.args.mode.now in
    λ fits. c.declared_pods_are_written_where_they_fit.ensures.room (mode_writable m) (mode_shallow m)
    (subst (λ n. length c.args.out.items + n ≤ 128) (sym (mode_length m)) fits)

pub returns-clause-full : goal.returns-clause-full
returns-clause-full c =
    IfErr-weaker c.declared_pods_are_written_where_they_fit.result _ _ (λ e. no_room (length c.args.out.items) c.args.mode.now e)
    c.declared_pods_are_written_where_they_fit.ensures.cause
