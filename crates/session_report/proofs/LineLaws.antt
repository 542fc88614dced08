-- A line that is read is the line that was written, and a line that was written is read again.
use Rattle.std.proofs.Common.{◌≡◌, ℕ, ◌^◌, ◌<◌, Bool, true, false, cond, eqb, leb, List, [], ◌∷◌, ◌++◌, Some, None, inl, inr, decimal, codes, refl, sym, ap, ◌∙◌, subst, arith}
use Rattle.std.proofs.lemmas.Bool.{cases_Bool, le-leb, leb-true, ne_eqb, eqb-false}
use Rattle.std.proofs.lemmas.Option.{cond_some, same_Some}
use Rattle.hub_core.specs.declared.record.SessionRecord.{SessionRecord}
use Rattle.hub_core.specs.declared.record.SessionResult.{SessionResult}
use Rattle.hub_core.specs.declared.record.SessionResult.TheVariants.{Whole, Overflow, WrongSn, RxTimeout, Restarted, NoRoom, WaitOver, NoReaders, Cancelled, RunEnd}
use Rattle.hub_core.specs.declared.record.DestRecord.{DestRecord}
use Rattle.hub_core.specs.declared.record.DestResult.{DestResult}
use Rattle.hub_core.specs.declared.record.DestResult.TheVariants.{Sent, SourceEnded, BsTimeout, FcOverflow, InvalidFs, CsTimeout, AsTimeout, Cancelled as SendCancelled, RunEnd as SendRunEnd}
use Rattle.if_core.specs.declared.record.IfRecord.{IfRecord}
use Rattle.session_report.specs.Lines.{deed_word, dest_fields, dest_line, fields_of, group_fields, interface_line, kind_word, line_before, move_line, opened_word, pool_line, session_fields, session_line, set_word, version_before}
use Rattle.session_report.specs.Orders.{DestFits, InterfaceFits, IsVersion, LineFits, MoveFits, PoolFits, SessionFits}
use Rattle.session_report.specs.Reading.{after_word, clock_at, deed_at, dest_at, dest_result_at, field_at, group_at, interface_at, kind_at, last_at, line_at, move_at, opened_at, pool_at, session_at, session_result_at, set_at, version_at}
use Rattle.session_report.specs.declared.line.Line.{Line}
use Rattle.session_report.specs.declared.line.Line.TheVariants.{Session, Dest, Interface, Move, Pool}
use Rattle.session_report.specs.declared.report.GroupMove.{GroupMove}
use Rattle.session_report.specs.declared.report.GroupPool.{GroupPool}
use Rattle.session_report.proofs.Numbers.{bind_some, word_takes}
use Rattle.session_report.proofs.FieldLaws.{byte_takes, deed_again, deed_takes, either, field_again, group_again, group_takes, last_again, long_takes, opened_again, opened_takes, set_again, set_takes, word32_takes, word_found}
use Rattle.session_report.proofs.ResultLaws.{dest_result_again, dest_result_takes, kind_again, kind_takes, session_result_again, session_result_takes}

cond_other : {A : Type 0} (b : Bool) (x y : A) → cond b None (Some x) ≡ Some y → (b ≡ false) × (x ≡ y)
cond_other true x y e = absurd cc
cond_other false x y e = (refl, cc)

-- a reader of a line takes one that fits
abbrev pub TakesLine : (version : ℕ) → List ℕ → Line × List ℕ → Type 0
TakesLine version text x = LineFits version x.0 × (text ≡ line_before (fields_of version x.0) x.1)

-- the fields of a result stand after the one before them
pub session_end : (field : List ℕ) (r : SessionResult) (rest : List ℕ) → line_before (field ∷ session_fields r) rest ≡ field ++ 32 ∷ line_before (session_fields r) rest
session_end field Whole rest = refl
session_end field (Overflow change free need) rest = refl
session_end field (WrongSn want got) rest = refl
session_end field (RxTimeout limit) rest = refl
session_end field Restarted rest = refl
session_end field (NoRoom room need) rest = refl
session_end field WaitOver rest = refl
session_end field NoReaders rest = refl
session_end field Cancelled rest = refl
session_end field (RunEnd wait since) rest = refl

pub dest_end : (field : List ℕ) (r : DestResult) (rest : List ℕ) → line_before (field ∷ dest_fields r) rest ≡ field ++ 32 ∷ line_before (dest_fields r) rest
dest_end field Sent rest = refl
dest_end field SourceEnded rest = refl
dest_end field BsTimeout rest = refl
dest_end field FcOverflow rest = refl
dest_end field (InvalidFs status) rest = refl
dest_end field (CsTimeout seen) rest = refl
dest_end field AsTimeout rest = refl
dest_end field SendCancelled rest = refl
dest_end field (SendRunEnd wait since) rest = refl

-- ---- sessions

session_takes : (version : ℕ) (text : List ℕ) (x : Line × List ℕ) → session_at text ≡ Some x → TakesLine version text x
unfolding session_at
session_takes version text x e =
    let a = bind_some (after_word (codes "session ") text) _ x e in
    let b = bind_some (field_at (2 ^ 8) a.0) _ x a.2 in
    let c = bind_some (field_at (2 ^ 32) b.0.1) _ x b.2 in
    let d = bind_some (field_at (2 ^ 32) c.0.1) _ x c.2 in
    let f = bind_some (field_at (2 ^ 64) d.0.1) _ x d.2 in
    let g = bind_some (field_at (2 ^ 32) f.0.1) _ x f.2 in
    let h = bind_some (field_at (2 ^ 64) g.0.1) _ x g.2 in
    let i = bind_some (opened_at h.0.1) _ x h.2 in
    let j = bind_some (session_result_at i.0.1) _ x i.2 in
    let pa = word_takes (codes "session ") text a.0 a.1 in
    let pb = byte_takes (codes " ") a.0 b.0 b.1 in
    let pc = word32_takes (codes " ") b.0.1 c.0 c.1 in
    let pd = word32_takes (codes " ") c.0.1 d.0 d.1 in
    let pf = long_takes (codes " ") d.0.1 f.0 f.1 in
    let pg = word32_takes (codes " ") f.0.1 g.0 g.1 in
    let ph = long_takes (codes " ") g.0.1 h.0 h.1 in
    let pi = opened_takes h.0.1 i.0 i.1 in
    let pj = session_result_takes i.0.1 j.0 j.1 in
    let chan : List ℕ = decimal b.0.0 in
    let n : List ℕ = decimal c.0.0 in
    let len : List ℕ = decimal d.0.0 in
    let begin : List ℕ = decimal f.0.0 in
    let bytes : List ℕ = decimal g.0.0 in
    let end : List ℕ = decimal h.0.0 in
    let opened : List ℕ = opened_word i.0.0 in
    let made : SessionRecord = record { chan = record { 0 = b.0.0 }; n = c.0.0; len = d.0.0; begin = record { 0 = f.0.0 }; bytes = g.0.0; end = record { 0 = h.0.0 }; opened = i.0.0; result = j.0.0 } in
    let fits : SessionFits made = record { chan = pb.0; n = pc.0; len = pd.0; begin = pf.0; bytes = pg.0; end = ph.0; opened = pi.0; result = pj.0 } in
    subst (TakesLine version text) (same_Some (Session made, j.0.1) x j.2) (
      fits,
      pa
          ∙ ap (λ u. codes "session " ++ u) (pb.1
          ∙ ap (λ u. chan ++ 32 ∷ u) (pc.1
          ∙ ap (λ u. n ++ 32 ∷ u) (pd.1
          ∙ ap (λ u. len ++ 32 ∷ u) (pf.1
          ∙ ap (λ u. begin ++ 32 ∷ u) (pg.1
          ∙ ap (λ u. bytes ++ 32 ∷ u) (ph.1
          ∙ ap (λ u. end ++ 32 ∷ u) (pi.1
          ∙ (ap (λ u. opened ++ 32 ∷ u) pj.1 ∙ sym (session_end opened j.0.0 j.0.1))))))))),
    )

session_again : (r : SessionRecord) (rest : List ℕ) → SessionFits r → session_at (line_before (session_line r) rest) ≡ Some (Session r, rest)
unfolding session_at
session_again r rest fits =
    let after : List ℕ = line_before (session_fields r.result) rest in
    let opened : List ℕ = opened_word r.opened ++ 32 ∷ after in
    let end : List ℕ = decimal r.end.0 ++ 32 ∷ opened in
    let bytes : List ℕ = decimal r.bytes ++ 32 ∷ end in
    let begin : List ℕ = decimal r.begin.0 ++ 32 ∷ bytes in
    let len : List ℕ = decimal r.len ++ 32 ∷ begin in
    let n : List ℕ = decimal r.n ++ 32 ∷ len in
    let spelled : line_before (session_line r) rest ≡ codes "session " ++ (decimal r.chan.0 ++ 32 ∷ n) =
    ap (λ u. codes "session " ++ (decimal r.chan.0 ++ 32 ∷ (decimal r.n ++ 32 ∷ (decimal r.len ++ 32 ∷ (decimal r.begin.0 ++ 32 ∷ (decimal r.bytes ++ 32 ∷ (decimal r.end.0 ++ 32 ∷ u))))))) (session_end (opened_word r.opened) r.result rest) in
    ap session_at spelled
    ∙ rw (field_again (2 ^ 8) r.chan.0 n (omega arith) fits.chan)
    (rw (field_again (2 ^ 32) r.n len (omega arith) fits.n)
    (rw (field_again (2 ^ 32) r.len begin (omega arith) fits.len)
    (rw (field_again (2 ^ 64) r.begin.0 bytes (omega arith) fits.begin)
    (rw (field_again (2 ^ 32) r.bytes end (omega arith) fits.bytes)
    (rw (field_again (2 ^ 64) r.end.0 opened (omega arith) fits.end)
    (rw (opened_again r.opened after fits.opened) (rw (session_result_again r.result rest fits.result) refl)))))))

-- ---- destinations

dest_takes : (version : ℕ) (text : List ℕ) (x : Line × List ℕ) → dest_at text ≡ Some x → TakesLine version text x
unfolding dest_at
dest_takes version text x e =
    let a = bind_some (after_word (codes "dest ") text) _ x e in
    let b = bind_some (field_at (2 ^ 8) a.0) _ x a.2 in
    let c = bind_some (field_at (2 ^ 8) b.0.1) _ x b.2 in
    let d = bind_some (field_at (2 ^ 32) c.0.1) _ x c.2 in
    let f = bind_some (field_at (2 ^ 64) d.0.1) _ x d.2 in
    let g = bind_some (field_at (2 ^ 32) f.0.1) _ x f.2 in
    let h = bind_some (field_at (2 ^ 64) g.0.1) _ x g.2 in
    let j = bind_some (dest_result_at h.0.1) _ x h.2 in
    let pa = word_takes (codes "dest ") text a.0 a.1 in
    let pb = byte_takes (codes " ") a.0 b.0 b.1 in
    let pc = byte_takes (codes " ") b.0.1 c.0 c.1 in
    let pd = word32_takes (codes " ") c.0.1 d.0 d.1 in
    let pf = long_takes (codes " ") d.0.1 f.0 f.1 in
    let pg = word32_takes (codes " ") f.0.1 g.0 g.1 in
    let ph = long_takes (codes " ") g.0.1 h.0 h.1 in
    let pj = dest_result_takes h.0.1 j.0 j.1 in
    let path : List ℕ = decimal b.0.0 in
    let dest : List ℕ = decimal c.0.0 in
    let seq : List ℕ = decimal d.0.0 in
    let begin : List ℕ = decimal f.0.0 in
    let sent : List ℕ = decimal g.0.0 in
    let end : List ℕ = decimal h.0.0 in
    let made : DestRecord = record { path = record { 0 = b.0.0 }; dest = record { 0 = c.0.0 }; seq = d.0.0; begin = record { 0 = f.0.0 }; sent = g.0.0; end = record { 0 = h.0.0 }; result = j.0.0 } in
    let fits : DestFits made = record { path = pb.0; dest = pc.0; seq = pd.0; begin = pf.0; sent = pg.0; end = ph.0; result = pj.0 } in
    subst (TakesLine version text) (same_Some (Dest made, j.0.1) x j.2) (
      fits,
      pa
          ∙ ap (λ u. codes "dest " ++ u) (pb.1
          ∙ ap (λ u. path ++ 32 ∷ u) (pc.1
          ∙ ap (λ u. dest ++ 32 ∷ u) (pd.1
          ∙ ap (λ u. seq ++ 32 ∷ u) (pf.1
          ∙ ap (λ u. begin ++ 32 ∷ u) (pg.1
          ∙ ap (λ u. sent ++ 32 ∷ u) (ph.1 ∙ (ap (λ u. end ++ 32 ∷ u) pj.1 ∙ sym (dest_end end j.0.0 j.0.1)))))))),
    )

dest_again : (r : DestRecord) (rest : List ℕ) → DestFits r → dest_at (line_before (dest_line r) rest) ≡ Some (Dest r, rest)
unfolding dest_at
dest_again r rest fits =
    let after : List ℕ = line_before (dest_fields r.result) rest in
    let end : List ℕ = decimal r.end.0 ++ 32 ∷ after in
    let sent : List ℕ = decimal r.sent ++ 32 ∷ end in
    let begin : List ℕ = decimal r.begin.0 ++ 32 ∷ sent in
    let seq : List ℕ = decimal r.seq ++ 32 ∷ begin in
    let dest : List ℕ = decimal r.dest.0 ++ 32 ∷ seq in
    let spelled : line_before (dest_line r) rest ≡ codes "dest " ++ (decimal r.path.0 ++ 32 ∷ dest) =
    ap (λ u. codes "dest " ++ (decimal r.path.0 ++ 32 ∷ (decimal r.dest.0 ++ 32 ∷ (decimal r.seq ++ 32 ∷ (decimal r.begin.0 ++ 32 ∷ (decimal r.sent ++ 32 ∷ u)))))) (dest_end (decimal r.end.0) r.result rest) in
    ap dest_at spelled
    ∙ rw (field_again (2 ^ 8) r.path.0 dest (omega arith) fits.path)
    (rw (field_again (2 ^ 8) r.dest.0 seq (omega arith) fits.dest)
    (rw (field_again (2 ^ 32) r.seq begin (omega arith) fits.seq)
    (rw (field_again (2 ^ 64) r.begin.0 sent (omega arith) fits.begin)
    (rw (field_again (2 ^ 32) r.sent end (omega arith) fits.sent)
    (rw (field_again (2 ^ 64) r.end.0 after (omega arith) fits.end) (rw (dest_result_again r.result rest fits.result) refl))))))

-- ---- units of interface paths

interface_takes : (version : ℕ) → IsVersion version → (text : List ℕ) (x : Line × List ℕ) → interface_at version text ≡ Some x → TakesLine version text x
unfolding interface_at
interface_takes version known text x e =
    let a = bind_some (after_word (codes "iface ") text) _ x e in
    let b = bind_some (field_at (2 ^ 8) a.0) _ x a.2 in
    let c = bind_some (field_at (2 ^ 64) b.0.1) _ x b.2 in
    let d = bind_some (field_at (2 ^ 64) c.0.1) _ x c.2 in
    let f = bind_some (kind_at version d.0.1) _ x d.2 in
    let pa = word_takes (codes "iface ") text a.0 a.1 in
    let pb = byte_takes (codes " ") a.0 b.0 b.1 in
    let pc = long_takes (codes " ") b.0.1 c.0 c.1 in
    let pd = long_takes (codes " ") c.0.1 d.0 d.1 in
    let pf = kind_takes version known d.0.1 f.0 f.1 in
    let path : List ℕ = decimal b.0.0 in
    let first : List ℕ = decimal c.0.0 in
    let last : List ℕ = decimal d.0.0 in
    let made : IfRecord = record { path = record { 0 = b.0.0 }; from = c.0.0; to = d.0.0; kind = f.0.0 } in
    let found = cond_some (leb c.0.0 d.0.0) (Interface made, f.0.1) x f.2 in
    let fits : InterfaceFits version made = record { path = pb.0; to = pd.0; some = leb-true c.0.0 d.0.0 found.0; kind = pf.0 } in
    subst (TakesLine version text) found.1
    (fits, pa ∙ ap (λ u. codes "iface " ++ u) (pb.1 ∙ ap (λ u. path ++ 32 ∷ u) (pc.1 ∙ ap (λ u. first ++ 32 ∷ u) (pd.1 ∙ ap (λ u. last ++ 32 ∷ u) pf.1))))

interface_again : (version : ℕ) (r : IfRecord) (rest : List ℕ) → InterfaceFits version r → interface_at version (line_before (interface_line r) rest) ≡ Some (Interface r, rest)
unfolding interface_at
interface_again version r rest fits =
    let kind : List ℕ = kind_word r.kind ++ 10 ∷ rest in
    let last : List ℕ = decimal r.to ++ 32 ∷ kind in
    let first : List ℕ = decimal r.from ++ 32 ∷ last in
    rw (field_again (2 ^ 8) r.path.0 first (omega arith) fits.path)
    (rw (field_again (2 ^ 64) r.from last (omega arith) (omega (arith, fits.some, fits.to)))
    (rw (field_again (2 ^ 64) r.to kind (omega arith) fits.to)
    (rw (kind_again version r.kind rest fits.kind) (rw (le-leb r.from r.to fits.some) refl))))

-- ---- moves and pools

-- the first word of a line stands before its group
pub word_before : (word : List ℕ) (version group : ℕ) (field : List ℕ) (fields : List (List ℕ)) (rest : List ℕ) →
    line_before (word ∷ group_fields version group (field ∷ fields)) rest ≡ word ++ 32 ∷ line_before (group_fields version group (field ∷ fields)) rest
word_before word version group field fields rest =
    elim (cases_Bool (eqb version 1)) [
      | inl one ↦ rw one refl
      | inr other ↦ rw other refl
    ]

move_takes : (version : ℕ) (text : List ℕ) (x : Line × List ℕ) → move_at version text ≡ Some x → TakesLine version text x
unfolding move_at
move_takes version text x e =
    let a = bind_some (after_word (codes "move ") text) _ x e in
    let b = bind_some (group_at version a.0) _ x a.2 in
    let c = bind_some (field_at (2 ^ 32) b.0.1) _ x b.2 in
    let d = bind_some (deed_at c.0.1) _ x c.2 in
    let f = bind_some (last_at (2 ^ 8) d.0.1) _ x d.2 in
    let pa = word_takes (codes "move ") text a.0 a.1 in
    let pb = group_takes version a.0 b.0 b.1 in
    let pc = word32_takes (codes " ") b.0.1 c.0 c.1 in
    let pd = deed_takes c.0.1 d.0 d.1 in
    let pf = byte_takes (codes "\n") d.0.1 f.0 f.1 in
    let change : List ℕ = decimal c.0.0 in
    let deed : List ℕ = deed_word d.0.0 in
    let buf : List ℕ = decimal f.0.0 in
    let made : GroupMove = record { group = b.0.0; made = record { change = c.0.0; took = d.0.0; buf = record { 0 = f.0.0 } } } in
    let fits : MoveFits version made = record { group = pb.0; change = pc.0; buf = pf.0 } in
    let fields : b.0.1 ≡ line_before (change ∷ deed ∷ buf ∷ []) f.0.1 = pc.1 ∙ ap (λ u. change ++ 32 ∷ u) (pd ∙ ap (λ u. deed ++ 32 ∷ u) pf.1) in
    subst (TakesLine version text) (same_Some (Move made, f.0.1) x f.2)
    (fits, pa ∙ ap (λ u. codes "move " ++ u) (pb.1 change (deed ∷ buf ∷ []) f.0.1 fields) ∙ sym (word_before (codes "move") version b.0.0 change (deed ∷ buf ∷ []) f.0.1))

move_again : (version : ℕ) (m : GroupMove) (rest : List ℕ) → MoveFits version m → move_at version (line_before (move_line version m) rest) ≡ Some (Move m, rest)
unfolding move_at
move_again version m rest fits =
    let change : List ℕ = decimal m.made.change in
    let deed : List ℕ = deed_word m.made.took in
    let buf : List ℕ = decimal m.made.buf.0 in
    ap (move_at version) (word_before (codes "move") version m.group change (deed ∷ buf ∷ []) rest)
    ∙ rw (group_again version m.group change (deed ∷ buf ∷ []) rest fits.group)
    (rw (field_again (2 ^ 32) m.made.change (deed ++ 32 ∷ (buf ++ 10 ∷ rest)) (omega arith) fits.change)
    (rw (deed_again m.made.took (buf ++ 10 ∷ rest)) (rw (last_again (2 ^ 8) m.made.buf.0 rest (omega arith) fits.buf) refl)))

pool_takes : (version : ℕ) (text : List ℕ) (x : Line × List ℕ) → pool_at version text ≡ Some x → TakesLine version text x
unfolding pool_at
pool_takes version text x e =
    let a = bind_some (after_word (codes "pool ") text) _ x e in
    let b = bind_some (group_at version a.0) _ x a.2 in
    let c = bind_some (field_at (2 ^ 32) b.0.1) _ x b.2 in
    let d = bind_some (field_at (2 ^ 32) c.0.1) _ x c.2 in
    let f = bind_some (set_at d.0.1) _ x d.2 in
    let g = bind_some (after_word (codes "\n") f.0.1) _ x f.2 in
    let pa = word_takes (codes "pool ") text a.0 a.1 in
    let pb = group_takes version a.0 b.0 b.1 in
    let pc = word32_takes (codes " ") b.0.1 c.0 c.1 in
    let pd = word32_takes (codes " ") c.0.1 d.0 d.1 in
    let pf = set_takes d.0.1 f.0 f.1 in
    let pg = word_takes (codes "\n") f.0.1 g.0 g.1 in
    let buffers : List ℕ = decimal c.0.0 in
    let changes : List ℕ = decimal d.0.0 in
    let free : List ℕ = set_word f.0.0 in
    let made : GroupPool = record { group = b.0.0; pool = record { buffers = c.0.0; changes = d.0.0; free = f.0.0 } } in
    let fits : PoolFits version made = record { group = pb.0; buffers = pc.0; changes = pd.0; free = pf.0 } in
    let fields : b.0.1 ≡ line_before (buffers ∷ changes ∷ free ∷ []) g.0 =
    pc.1 ∙ ap (λ u. buffers ++ 32 ∷ u) (pd.1 ∙ ap (λ u. changes ++ 32 ∷ u) (pf.1 ∙ ap (λ u. free ++ u) pg)) in
    subst (TakesLine version text) (same_Some (Pool made, g.0) x g.2)
    (fits, pa ∙ ap (λ u. codes "pool " ++ u) (pb.1 buffers (changes ∷ free ∷ []) g.0 fields) ∙ sym (word_before (codes "pool") version b.0.0 buffers (changes ∷ free ∷ []) g.0))

pool_again : (version : ℕ) (p : GroupPool) (rest : List ℕ) → PoolFits version p → pool_at version (line_before (pool_line version p) rest) ≡ Some (Pool p, rest)
unfolding pool_at
pool_again version p rest fits =
    let buffers : List ℕ = decimal p.pool.buffers in
    let changes : List ℕ = decimal p.pool.changes in
    let free : List ℕ = set_word p.pool.free in
    ap (pool_at version) (word_before (codes "pool") version p.group buffers (changes ∷ free ∷ []) rest)
    ∙ rw (group_again version p.group buffers (changes ∷ free ∷ []) rest fits.group)
    (rw (field_again (2 ^ 32) p.pool.buffers (changes ++ 32 ∷ (free ++ 10 ∷ rest)) (omega arith) fits.buffers)
    (rw (field_again (2 ^ 32) p.pool.changes (free ++ 10 ∷ rest) (omega arith) fits.changes) (rw (set_again p.pool.free (10 ∷ rest) fits.free) refl)))

-- ---- any line

pub line_takes : (version : ℕ) → IsVersion version → (text : List ℕ) (x : Line × List ℕ) → line_at version text ≡ Some x → TakesLine version text x
unfolding line_at
line_takes version known text x e =
    let P : Type 0 = TakesLine version text x in
    either _ _ x P
    (λ h. either _ _ x P
    (λ h. either _ _ x P
    (λ h. either _ _ x P (λ h. session_takes version text x h) (λ h. dest_takes version text x h) h)
    (λ h. interface_takes version known text x h) h)
    (λ h. move_takes version text x h) h)
    (λ h. pool_takes version text x h) e

move_alone : (version : ℕ) (m : GroupMove) (rest : List ℕ) → MoveFits version m → line_at version (line_before (move_line version m) rest) ≡ Some (Move m, rest)
unfolding line_at session_at dest_at interface_at
move_alone version m rest fits =
    let change : List ℕ = decimal m.made.change in
    let spelled = word_before (codes "move") version m.group change (deed_word m.made.took ∷ decimal m.made.buf.0 ∷ []) rest in
    let found : move_at version (codes "move" ++ 32 ∷ line_before (group_fields version m.group (change ∷ deed_word m.made.took ∷ decimal m.made.buf.0 ∷ [])) rest) ≡ Some (Move m, rest) =
    ap (move_at version) (sym spelled) ∙ move_again version m rest fits in
    ap (line_at version) spelled ∙ rw found refl

pool_alone : (version : ℕ) (p : GroupPool) (rest : List ℕ) → PoolFits version p → line_at version (line_before (pool_line version p) rest) ≡ Some (Pool p, rest)
unfolding line_at session_at dest_at interface_at move_at
pool_alone version p rest fits =
    let buffers : List ℕ = decimal p.pool.buffers in
    let spelled = word_before (codes "pool") version p.group buffers (decimal p.pool.changes ∷ set_word p.pool.free ∷ []) rest in
    let found : pool_at version (codes "pool" ++ 32 ∷ line_before (group_fields version p.group (buffers ∷ decimal p.pool.changes ∷ set_word p.pool.free ∷ [])) rest) ≡ Some (Pool p, rest) =
    ap (pool_at version) (sym spelled) ∙ pool_again version p rest fits in
    ap (line_at version) spelled ∙ rw found refl

pub line_again : (version : ℕ) (line : Line) (rest : List ℕ) → LineFits version line → line_at version (line_before (fields_of version line) rest) ≡ Some (line, rest)
unfolding line_at session_at dest_at interface_at move_at pool_at
line_again version (Session r) rest fits = rw (session_again r rest fits) refl
line_again version (Dest r) rest fits = rw (dest_again r rest fits) refl
line_again version (Interface r) rest fits = rw (interface_again version r rest fits) refl
line_again version (Move m) rest fits = move_alone version m rest fits
line_again version (Pool p) rest fits = pool_alone version p rest fits

-- ---- the first two lines

pub version_takes : (text : List ℕ) (x : ℕ × List ℕ) → version_at text ≡ Some x → IsVersion x.0 × (text ≡ version_before x.0 x.1)
unfolding version_at
version_takes text x e =
    let P : ℕ × List ℕ → Type 0 = λ y. IsVersion y.0 × (text ≡ version_before y.0 y.1) in
    either _ _ x (P x) (λ h. word_found (codes "report 1\n") 1 text x P (λ rest is. (inl refl, is)) h) (λ h. word_found (codes "report 2\n") 2 text x P (λ rest is. (inr refl, is)) h) e

pub version_again : (version : ℕ) (rest : List ℕ) → IsVersion version → version_at (version_before version rest) ≡ Some (version, rest)
unfolding version_at
version_again version rest (inl one) = rw one refl
version_again version rest (inr two) = rw two refl

pub clock_takes : (text : List ℕ) (x : (ℕ × ℕ) × List ℕ) → clock_at text ≡ Some x →
    (x.0.0 < 2 ^ 64) × (x.0.1 < 2 ^ 32) × (0 < x.0.1) × (text ≡ line_before (codes "clock" ∷ decimal x.0.0 ∷ decimal x.0.1 ∷ []) x.1)
unfolding clock_at
clock_takes text x e =
    let a = bind_some (after_word (codes "clock ") text) _ x e in
    let b = bind_some (field_at (2 ^ 64) a.0) _ x a.2 in
    let c = bind_some (last_at (2 ^ 32) b.0.1) _ x b.2 in
    let pa = word_takes (codes "clock ") text a.0 a.1 in
    let pb = long_takes (codes " ") a.0 b.0 b.1 in
    let pc = word32_takes (codes "\n") b.0.1 c.0 c.1 in
    let start : List ℕ = decimal b.0.0 in
    let found = cond_other (eqb c.0.0 0) ((b.0.0, c.0.0), c.0.1) x c.2 in
    let some : 0 < c.0.0 = let other = eqb-false c.0.0 0 found.0 in omega (arith, other) in
    subst (λ (y : (ℕ × ℕ) × List ℕ). (y.0.0 < 2 ^ 64) × (y.0.1 < 2 ^ 32) × (0 < y.0.1) × (text ≡ line_before (codes "clock" ∷ decimal y.0.0 ∷ decimal y.0.1 ∷ []) y.1)) found.1
    (pb.0, pc.0, some, pa ∙ ap (λ u. codes "clock " ++ u) (pb.1 ∙ ap (λ u. start ++ 32 ∷ u) pc.1))

pub clock_again : (start period : ℕ) (rest : List ℕ) → start < 2 ^ 64 → period < 2 ^ 32 → 0 < period →
    clock_at (line_before (codes "clock" ∷ decimal start ∷ decimal period ∷ []) rest) ≡ Some ((start, period), rest)
unfolding clock_at
clock_again start period rest small fits some =
    rw (field_again (2 ^ 64) start (decimal period ++ 10 ∷ rest) (omega arith) small)
    (rw (last_again (2 ^ 32) period rest (omega arith) fits) (rw (ne_eqb period 0 (λ is. omega (arith, is, some))) refl))
