-- How a reception or a transmission ended, read as it was written, and read again.
use Rattle.std.proofs.Common.{◌≡◌, ℕ, ◌^◌, ◌<◌, List, ◌∷◌, ◌++◌, Some, inl, inr, decimal, codes, refl, sym, ap, ◌∙◌, subst, arith}
use Rattle.std.proofs.lemmas.Option.{none-some, same_Some}
use Rattle.hub_core.specs.declared.record.SessionResult.{SessionResult}
use Rattle.hub_core.specs.declared.record.SessionResult.TheVariants.{Whole, Overflow, WrongSn, RxTimeout, Restarted, NoRoom, WaitOver, NoReaders, Cancelled, RunEnd}
use Rattle.hub_core.specs.declared.record.RxLimit.{RxLimit}
use Rattle.hub_core.specs.declared.record.RxLimit.TheVariants.{Box, Cf}
use Rattle.hub_core.specs.declared.record.RxWait.{RxWait}
use Rattle.hub_core.specs.declared.record.RxWait.TheVariants.{Box as WaitsForBox, Room, Cf as WaitsForCf}
use Rattle.hub_core.specs.declared.record.DestResult.{DestResult}
use Rattle.hub_core.specs.declared.record.DestResult.TheVariants.{Sent, SourceEnded, BsTimeout, FcOverflow, InvalidFs, CsTimeout, AsTimeout, Cancelled as SendCancelled, RunEnd as SendRunEnd}
use Rattle.hub_core.specs.declared.record.TxWait.{TxWait}
use Rattle.hub_core.specs.declared.record.TxWait.TheVariants.{Start, Turn, Fc, Gap, Bytes, Bus}
use Rattle.if_core.specs.declared.record.IfKind.{IfKind}
use Rattle.if_core.specs.declared.record.IfKind.TheVariants.{Sent as UnitSent, Boxed, Flushed, Refused, Left}
use Rattle.session_report.specs.Lines.{dest_fields, kind_word, line_before, rx_limit_word, rx_wait_word, session_fields, set_word, tx_wait_word}
use Rattle.session_report.specs.Orders.{DestResultFits, IsVersion, KindFits, SessionResultFits}
use Rattle.session_report.specs.Reading.{after_word, cs_timeout_at, dest_result_at, field_at, invalid_fs_at, kind_at, last_at, no_room_at, overflow_at, plain_dest_at, plain_session_at, refused_at, rx_end_at, rx_limit_at, rx_timeout_at, rx_wait_at, session_result_at, set_at, tx_end_at, tx_wait_at, wrong_sn_at}
use Rattle.session_report.proofs.Numbers.{bind_some, word_takes}
use Rattle.session_report.proofs.FieldLaws.{byte_takes, either, field_again, last_again, long_takes, set_again, set_takes, word32_takes, word_found}

-- ---- words

rx_limit_takes : (text : List ℕ) (x : RxLimit × List ℕ) → rx_limit_at text ≡ Some x → text ≡ rx_limit_word x.0 ++ 10 ∷ x.1
unfolding rx_limit_at
rx_limit_takes text x e =
    let P : RxLimit × List ℕ → Type 0 = λ y. text ≡ rx_limit_word y.0 ++ 10 ∷ y.1 in
    either _ _ x (P x) (λ h. word_found (codes "box\n") Box text x P (λ rest is. is) h) (λ h. word_found (codes "cf\n") Cf text x P (λ rest is. is) h) e

rx_limit_again : (limit : RxLimit) (rest : List ℕ) → rx_limit_at (rx_limit_word limit ++ 10 ∷ rest) ≡ Some (limit, rest)
unfolding rx_limit_at
rx_limit_again Box rest = refl
rx_limit_again Cf rest = refl

rx_wait_takes : (text : List ℕ) (x : RxWait × List ℕ) → rx_wait_at text ≡ Some x → text ≡ rx_wait_word x.0 ++ 32 ∷ x.1
unfolding rx_wait_at
rx_wait_takes text x e =
    let P : RxWait × List ℕ → Type 0 = λ y. text ≡ rx_wait_word y.0 ++ 32 ∷ y.1 in
    either _ _ x (P x)
    (λ h. either _ _ x (P x) (λ h. word_found (codes "box ") WaitsForBox text x P (λ rest is. is) h) (λ h. word_found (codes "room ") Room text x P (λ rest is. is) h) h)
    (λ h. word_found (codes "cf ") WaitsForCf text x P (λ rest is. is) h) e

rx_wait_again : (wait : RxWait) (rest : List ℕ) → rx_wait_at (rx_wait_word wait ++ 32 ∷ rest) ≡ Some (wait, rest)
unfolding rx_wait_at
rx_wait_again WaitsForBox rest = refl
rx_wait_again Room rest = refl
rx_wait_again WaitsForCf rest = refl

tx_wait_takes : (text : List ℕ) (x : TxWait × List ℕ) → tx_wait_at text ≡ Some x → text ≡ tx_wait_word x.0 ++ 32 ∷ x.1
unfolding tx_wait_at
tx_wait_takes text x e =
    let P : TxWait × List ℕ → Type 0 = λ y. text ≡ tx_wait_word y.0 ++ 32 ∷ y.1 in
    either _ _ x (P x)
    (λ h. either _ _ x (P x)
    (λ h. either _ _ x (P x)
    (λ h. either _ _ x (P x)
    (λ h. either _ _ x (P x) (λ h. word_found (codes "start ") Start text x P (λ rest is. is) h) (λ h. word_found (codes "turn ") Turn text x P (λ rest is. is) h) h)
    (λ h. word_found (codes "fc ") Fc text x P (λ rest is. is) h) h)
    (λ h. word_found (codes "gap ") Gap text x P (λ rest is. is) h) h)
    (λ h. word_found (codes "bytes ") Bytes text x P (λ rest is. is) h) h)
    (λ h. word_found (codes "bus ") Bus text x P (λ rest is. is) h) e

tx_wait_again : (wait : TxWait) (rest : List ℕ) → tx_wait_at (tx_wait_word wait ++ 32 ∷ rest) ≡ Some (wait, rest)
unfolding tx_wait_at
tx_wait_again Start rest = refl
tx_wait_again Turn rest = refl
tx_wait_again Fc rest = refl
tx_wait_again Gap rest = refl
tx_wait_again Bytes rest = refl
tx_wait_again Bus rest = refl

-- ---- receptions

-- a reader of an end of a reception takes what is spelled so
abbrev EndsSession : List ℕ → SessionResult × List ℕ → Type 0
EndsSession text x = SessionResultFits x.0 × (text ≡ line_before (session_fields x.0) x.1)

overflow_takes : (text : List ℕ) (x : SessionResult × List ℕ) → overflow_at text ≡ Some x → EndsSession text x
unfolding overflow_at
overflow_takes text x e =
    let a = bind_some (after_word (codes "overflow ") text) _ x e in
    let b = bind_some (field_at (2 ^ 32) a.0) _ x a.2 in
    let c = bind_some (set_at b.0.1) _ x b.2 in
    let d = bind_some (after_word (codes " ") c.0.1) _ x c.2 in
    let f = bind_some (last_at (2 ^ 64) d.0) _ x d.2 in
    let p = word_takes (codes "overflow ") text a.0 a.1 in
    let q = word32_takes (codes " ") a.0 b.0 b.1 in
    let r = set_takes b.0.1 c.0 c.1 in
    let s = word_takes (codes " ") c.0.1 d.0 d.1 in
    let t = long_takes (codes "\n") d.0 f.0 f.1 in
    let change : List ℕ = decimal b.0.0 in
    let free : List ℕ = set_word c.0.0 in
    subst (EndsSession text) (same_Some _ x f.2)
    ((q.0, r.0, t.0), p ∙ ap (λ u. codes "overflow " ++ u) (q.1 ∙ ap (λ u. change ++ 32 ∷ u) (r.1 ∙ ap (λ u. free ++ u) (s ∙ ap (λ u. 32 ∷ u) t.1))))

overflow_again : (change free need : ℕ) (rest : List ℕ) → SessionResultFits (Overflow change free need) →
    overflow_at (line_before (session_fields (Overflow change free need)) rest) ≡ Some (Overflow change free need, rest)
unfolding overflow_at
overflow_again change free need rest fits =
    rw (field_again (2 ^ 32) change (set_word free ++ 32 ∷ (decimal need ++ 10 ∷ rest)) (omega arith) fits.0)
    (rw (set_again free (32 ∷ (decimal need ++ 10 ∷ rest)) fits.1) (rw (last_again (2 ^ 64) need rest (omega arith) fits.2) refl))

wrong_sn_takes : (text : List ℕ) (x : SessionResult × List ℕ) → wrong_sn_at text ≡ Some x → EndsSession text x
unfolding wrong_sn_at
wrong_sn_takes text x e =
    let a = bind_some (after_word (codes "wrong-sn ") text) _ x e in
    let b = bind_some (field_at (2 ^ 8) a.0) _ x a.2 in
    let c = bind_some (last_at (2 ^ 8) b.0.1) _ x b.2 in
    let p = word_takes (codes "wrong-sn ") text a.0 a.1 in
    let q = byte_takes (codes " ") a.0 b.0 b.1 in
    let r = byte_takes (codes "\n") b.0.1 c.0 c.1 in
    let want : List ℕ = decimal b.0.0 in
    subst (EndsSession text) (same_Some _ x c.2) ((q.0, r.0), p ∙ ap (λ u. codes "wrong-sn " ++ u) (q.1 ∙ ap (λ u. want ++ 32 ∷ u) r.1))

wrong_sn_again : (want got : ℕ) (rest : List ℕ) → SessionResultFits (WrongSn want got) → wrong_sn_at (line_before (session_fields (WrongSn want got)) rest) ≡ Some (WrongSn want got, rest)
unfolding wrong_sn_at
wrong_sn_again want got rest fits =
    rw (field_again (2 ^ 8) want (decimal got ++ 10 ∷ rest) (omega arith) fits.0) (rw (last_again (2 ^ 8) got rest (omega arith) fits.1) refl)

rx_timeout_takes : (text : List ℕ) (x : SessionResult × List ℕ) → rx_timeout_at text ≡ Some x → EndsSession text x
unfolding rx_timeout_at
rx_timeout_takes text x e =
    let a = bind_some (after_word (codes "rx-timeout ") text) _ x e in
    let b = bind_some (rx_limit_at a.0) _ x a.2 in
    let p = word_takes (codes "rx-timeout ") text a.0 a.1 in
    let q = rx_limit_takes a.0 b.0 b.1 in
    subst (EndsSession text) (same_Some _ x b.2) (tt, p ∙ ap (λ u. codes "rx-timeout " ++ u) q)

rx_timeout_again : (limit : RxLimit) (rest : List ℕ) → rx_timeout_at (line_before (session_fields (RxTimeout limit)) rest) ≡ Some (RxTimeout limit, rest)
unfolding rx_timeout_at
rx_timeout_again limit rest = rw (rx_limit_again limit rest) refl

no_room_takes : (text : List ℕ) (x : SessionResult × List ℕ) → no_room_at text ≡ Some x → EndsSession text x
unfolding no_room_at
no_room_takes text x e =
    let a = bind_some (after_word (codes "no-room ") text) _ x e in
    let b = bind_some (field_at (2 ^ 32) a.0) _ x a.2 in
    let c = bind_some (last_at (2 ^ 32) b.0.1) _ x b.2 in
    let p = word_takes (codes "no-room ") text a.0 a.1 in
    let q = word32_takes (codes " ") a.0 b.0 b.1 in
    let r = word32_takes (codes "\n") b.0.1 c.0 c.1 in
    let room : List ℕ = decimal b.0.0 in
    subst (EndsSession text) (same_Some _ x c.2) ((q.0, r.0), p ∙ ap (λ u. codes "no-room " ++ u) (q.1 ∙ ap (λ u. room ++ 32 ∷ u) r.1))

no_room_again : (room need : ℕ) (rest : List ℕ) → SessionResultFits (NoRoom room need) → no_room_at (line_before (session_fields (NoRoom room need)) rest) ≡ Some (NoRoom room need, rest)
unfolding no_room_at
no_room_again room need rest fits =
    rw (field_again (2 ^ 32) room (decimal need ++ 10 ∷ rest) (omega arith) fits.0) (rw (last_again (2 ^ 32) need rest (omega arith) fits.1) refl)

rx_end_takes : (text : List ℕ) (x : SessionResult × List ℕ) → rx_end_at text ≡ Some x → EndsSession text x
unfolding rx_end_at
rx_end_takes text x e =
    let a = bind_some (after_word (codes "run-end ") text) _ x e in
    let b = bind_some (rx_wait_at a.0) _ x a.2 in
    let c = bind_some (last_at (2 ^ 64) b.0.1) _ x b.2 in
    let p = word_takes (codes "run-end ") text a.0 a.1 in
    let q = rx_wait_takes a.0 b.0 b.1 in
    let r = long_takes (codes "\n") b.0.1 c.0 c.1 in
    let wait : List ℕ = rx_wait_word b.0.0 in
    subst (EndsSession text) (same_Some _ x c.2) (r.0, p ∙ ap (λ u. codes "run-end " ++ u) (q ∙ ap (λ u. wait ++ 32 ∷ u) r.1))

rx_end_again : (wait : RxWait) (since : ℕ) (rest : List ℕ) → since < 2 ^ 64 →
    rx_end_at (line_before (session_fields (RunEnd wait (record { 0 = since }))) rest) ≡ Some (RunEnd wait (record { 0 = since }), rest)
unfolding rx_end_at
rx_end_again wait since rest fits =
    rw (rx_wait_again wait (decimal since ++ 10 ∷ rest)) (rw (last_again (2 ^ 64) since rest (omega arith) fits) refl)

plain_session_takes : (text : List ℕ) (x : SessionResult × List ℕ) → plain_session_at text ≡ Some x → EndsSession text x
unfolding plain_session_at
plain_session_takes text x e =
    let P : SessionResult × List ℕ → Type 0 = EndsSession text in
    either _ _ x (P x)
    (λ h. either _ _ x (P x)
    (λ h. either _ _ x (P x)
    (λ h. either _ _ x (P x) (λ h. word_found (codes "whole\n") Whole text x P (λ rest is. (tt, is)) h) (λ h. word_found (codes "restarted\n") Restarted text x P (λ rest is. (tt, is)) h) h)
    (λ h. word_found (codes "wait-over\n") WaitOver text x P (λ rest is. (tt, is)) h) h)
    (λ h. word_found (codes "no-readers\n") NoReaders text x P (λ rest is. (tt, is)) h) h)
    (λ h. word_found (codes "cancelled\n") Cancelled text x P (λ rest is. (tt, is)) h) e

pub session_result_takes : (text : List ℕ) (x : SessionResult × List ℕ) → session_result_at text ≡ Some x → EndsSession text x
unfolding session_result_at
session_result_takes text x e =
    let P : Type 0 = EndsSession text x in
    either _ _ x P
    (λ h. either _ _ x P
    (λ h. either _ _ x P
    (λ h. either _ _ x P (λ h. either _ _ x P (λ h. plain_session_takes text x h) (λ h. overflow_takes text x h) h) (λ h. wrong_sn_takes text x h) h)
    (λ h. rx_timeout_takes text x h) h)
    (λ h. no_room_takes text x h) h)
    (λ h. rx_end_takes text x h) e

pub session_result_again : (r : SessionResult) (rest : List ℕ) → SessionResultFits r → session_result_at (line_before (session_fields r) rest) ≡ Some (r, rest)
unfolding session_result_at plain_session_at overflow_at wrong_sn_at rx_timeout_at no_room_at
session_result_again Whole rest fits = refl
session_result_again (Overflow change free need) rest fits = rw (overflow_again change free need rest fits) refl
session_result_again (WrongSn want got) rest fits = rw (wrong_sn_again want got rest fits) refl
session_result_again (RxTimeout limit) rest fits = rw (rx_timeout_again limit rest) refl
session_result_again Restarted rest fits = refl
session_result_again (NoRoom room need) rest fits = rw (no_room_again room need rest fits) refl
session_result_again WaitOver rest fits = refl
session_result_again NoReaders rest fits = refl
session_result_again Cancelled rest fits = refl
session_result_again (RunEnd wait since) rest fits = rw (rx_end_again wait since.0 rest fits) refl

-- ---- transmissions

abbrev EndsDest : List ℕ → DestResult × List ℕ → Type 0
EndsDest text x = DestResultFits x.0 × (text ≡ line_before (dest_fields x.0) x.1)

invalid_fs_takes : (text : List ℕ) (x : DestResult × List ℕ) → invalid_fs_at text ≡ Some x → EndsDest text x
unfolding invalid_fs_at
invalid_fs_takes text x e =
    let a = bind_some (after_word (codes "invalid-fs ") text) _ x e in
    let b = bind_some (last_at (2 ^ 8) a.0) _ x a.2 in
    let p = word_takes (codes "invalid-fs ") text a.0 a.1 in
    let q = byte_takes (codes "\n") a.0 b.0 b.1 in
    subst (EndsDest text) (same_Some _ x b.2) (q.0, p ∙ ap (λ u. codes "invalid-fs " ++ u) q.1)

cs_timeout_takes : (text : List ℕ) (x : DestResult × List ℕ) → cs_timeout_at text ≡ Some x → EndsDest text x
unfolding cs_timeout_at
cs_timeout_takes text x e =
    let a = bind_some (after_word (codes "cs-timeout ") text) _ x e in
    let b = bind_some (last_at (2 ^ 32) a.0) _ x a.2 in
    let p = word_takes (codes "cs-timeout ") text a.0 a.1 in
    let q = word32_takes (codes "\n") a.0 b.0 b.1 in
    subst (EndsDest text) (same_Some _ x b.2) (q.0, p ∙ ap (λ u. codes "cs-timeout " ++ u) q.1)

tx_end_takes : (text : List ℕ) (x : DestResult × List ℕ) → tx_end_at text ≡ Some x → EndsDest text x
unfolding tx_end_at
tx_end_takes text x e =
    let a = bind_some (after_word (codes "run-end ") text) _ x e in
    let b = bind_some (tx_wait_at a.0) _ x a.2 in
    let c = bind_some (last_at (2 ^ 64) b.0.1) _ x b.2 in
    let p = word_takes (codes "run-end ") text a.0 a.1 in
    let q = tx_wait_takes a.0 b.0 b.1 in
    let r = long_takes (codes "\n") b.0.1 c.0 c.1 in
    let wait : List ℕ = tx_wait_word b.0.0 in
    subst (EndsDest text) (same_Some _ x c.2) (r.0, p ∙ ap (λ u. codes "run-end " ++ u) (q ∙ ap (λ u. wait ++ 32 ∷ u) r.1))

plain_dest_takes : (text : List ℕ) (x : DestResult × List ℕ) → plain_dest_at text ≡ Some x → EndsDest text x
unfolding plain_dest_at
plain_dest_takes text x e =
    let P : DestResult × List ℕ → Type 0 = EndsDest text in
    either _ _ x (P x)
    (λ h. either _ _ x (P x)
    (λ h. either _ _ x (P x)
    (λ h. either _ _ x (P x)
    (λ h. either _ _ x (P x) (λ h. word_found (codes "sent\n") Sent text x P (λ rest is. (tt, is)) h) (λ h. word_found (codes "source-ended\n") SourceEnded text x P (λ rest is. (tt, is)) h) h)
    (λ h. word_found (codes "bs-timeout\n") BsTimeout text x P (λ rest is. (tt, is)) h) h)
    (λ h. word_found (codes "fc-overflow\n") FcOverflow text x P (λ rest is. (tt, is)) h) h)
    (λ h. word_found (codes "as-timeout\n") AsTimeout text x P (λ rest is. (tt, is)) h) h)
    (λ h. word_found (codes "cancelled\n") SendCancelled text x P (λ rest is. (tt, is)) h) e

pub dest_result_takes : (text : List ℕ) (x : DestResult × List ℕ) → dest_result_at text ≡ Some x → EndsDest text x
unfolding dest_result_at
dest_result_takes text x e =
    let P : Type 0 = EndsDest text x in
    either _ _ x P
    (λ h. either _ _ x P (λ h. either _ _ x P (λ h. plain_dest_takes text x h) (λ h. invalid_fs_takes text x h) h) (λ h. cs_timeout_takes text x h) h)
    (λ h. tx_end_takes text x h) e

tx_end_again : (wait : TxWait) (since : ℕ) (rest : List ℕ) → since < 2 ^ 64 →
    tx_end_at (line_before (dest_fields (SendRunEnd wait (record { 0 = since }))) rest) ≡ Some (SendRunEnd wait (record { 0 = since }), rest)
unfolding tx_end_at
tx_end_again wait since rest fits =
    rw (tx_wait_again wait (decimal since ++ 10 ∷ rest)) (rw (last_again (2 ^ 64) since rest (omega arith) fits) refl)

pub dest_result_again : (r : DestResult) (rest : List ℕ) → DestResultFits r → dest_result_at (line_before (dest_fields r) rest) ≡ Some (r, rest)
unfolding dest_result_at plain_dest_at invalid_fs_at cs_timeout_at
dest_result_again Sent rest fits = refl
dest_result_again SourceEnded rest fits = refl
dest_result_again BsTimeout rest fits = refl
dest_result_again FcOverflow rest fits = refl
dest_result_again (InvalidFs status) rest fits = rw (last_again (2 ^ 8) status rest (omega arith) fits) refl
dest_result_again (CsTimeout seen) rest fits = rw (last_again (2 ^ 32) seen rest (omega arith) fits) refl
dest_result_again AsTimeout rest fits = refl
dest_result_again SendCancelled rest fits = refl
dest_result_again (SendRunEnd wait since) rest fits = rw (tx_end_again wait since.0 rest fits) refl

-- ---- units of interface paths

abbrev IsKind : (version : ℕ) → List ℕ → IfKind × List ℕ → Type 0
IsKind version text x = KindFits version x.0 × (text ≡ kind_word x.0 ++ 10 ∷ x.1)

refused_takes : (version : ℕ) → IsVersion version → (text : List ℕ) (x : IfKind × List ℕ) → refused_at version text ≡ Some x → IsKind version text x
unfolding refused_at
refused_takes version (inl one) text x e = absurd (none-some x (sym (ap (λ v. refused_at v text) one) ∙ e))
refused_takes version (inr two) text x e =
    word_found (codes "refused\n") Refused text x (IsKind version text) (λ rest is. (two, is)) (rw two at e)

pub kind_takes : (version : ℕ) → IsVersion version → (text : List ℕ) (x : IfKind × List ℕ) → kind_at version text ≡ Some x → IsKind version text x
unfolding kind_at
kind_takes version known text x e =
    let P : IfKind × List ℕ → Type 0 = IsKind version text in
    either _ _ x (P x)
    (λ h. either _ _ x (P x)
    (λ h. either _ _ x (P x)
    (λ h. either _ _ x (P x) (λ h. word_found (codes "sent\n") UnitSent text x P (λ rest is. (tt, is)) h) (λ h. word_found (codes "boxed\n") Boxed text x P (λ rest is. (tt, is)) h) h)
    (λ h. word_found (codes "flushed\n") Flushed text x P (λ rest is. (tt, is)) h) h)
    (λ h. word_found (codes "left\n") Left text x P (λ rest is. (tt, is)) h) h)
    (λ h. refused_takes version known text x h) e

pub kind_again : (version : ℕ) (kind : IfKind) (rest : List ℕ) → KindFits version kind → kind_at version (kind_word kind ++ 10 ∷ rest) ≡ Some (kind, rest)
unfolding kind_at refused_at
kind_again version UnitSent rest fits = refl
kind_again version Boxed rest fits = refl
kind_again version Flushed rest fits = refl
kind_again version Refused rest fits = rw fits refl
kind_again version Left rest fits = refl
