-- Lines of loads, stores and atomic instructions are read as their instructions.
use Rattle.assembler.proofs.Common.{◌≡◌, List, [], ◌∷◌, ◌++◌, drop, refl, ap, ◌∙◌, append_assoc, lit<, codes, true, false, ℤ, pos, negsuc, w16, w32, FitsSigned, signed_decimal, Reg, R0, Width, Full64, Size, SignedSize, AtomicOp, Place, Load, LoadSx, StoreConstant, Store, Atomic, Exchange, CompareExchange, width_size, reg_text, size_text, signed_text, width_text, atomic_text, fetch_text, offset_text, line_of, Word, Token, Named, Signed, changes}
use Rattle.assembler.specs.declared.tokens.Word.TheVariants as word
use Rattle.assembler.specs.declared.tokens.Sign.TheVariants as sign
use Rattle.assembler.proofs.PlainTexts.{Parts, read_rest}
use Rattle.assembler.proofs.TokenReads.{draft, reg-read, size-read, signed_size-read, fetch-read, exchange-read, compare-read, atomic-read, constant_tokens, place_tokens, constant-read, place-read}
use Rattle.assembler.proofs.FormReads.{memory_tokens, load-form, extending-form, store-form, constant-form, lock-form, exchange_tokens, fetch-form, exchange-form, compare-form}
use Rattle.assembler.proofs.LineReads.{end-read, reg, ReadsLine, Bytes}

-- ---- lists put together, with the brackets moved to the right; three of them are a place's

place5 : (a b c d p q r e rest : Bytes)
    → (a ++ b ++ c ++ d ++ (p ++ q ++ r) ++ e) ++ rest
    ≡ a ++ (b ++ (c ++ (d ++ (p ++ (q ++ (r ++ (e ++ rest)))))))
place5 a b c d p q r e rest = simp append_assoc

place-2-2 : (a b c p q r d e f rest : Bytes)
    → (a ++ b ++ c ++ (p ++ q ++ r) ++ d ++ e ++ f) ++ rest
    ≡ a ++ (b ++ (c ++ (p ++ (q ++ (r ++ (d ++ (e ++ (f ++ rest))))))))
place-2-2 a b c p q r d e f rest = simp append_assoc

place-lock : (a b c p q r d e f g h rest : Bytes)
    → (a ++ b ++ c ++ (p ++ q ++ r) ++ d ++ e ++ f ++ g ++ h) ++ rest
    ≡ a ++ (b ++ (c ++ (p ++ (q ++ (r ++ (d ++ (e ++ (f ++ (g ++ (h ++ rest))))))))))
place-lock a b c p q r d e f g h rest = simp append_assoc

place-exchange : (a b c d p q r e f g rest : Bytes)
    → (a ++ b ++ c ++ d ++ (p ++ q ++ r) ++ e ++ f ++ g) ++ rest
    ≡ a ++ (b ++ (c ++ (d ++ (p ++ (q ++ (r ++ (e ++ (f ++ (g ++ rest)))))))))
place-exchange a b c d p q r e f g rest = simp append_assoc

place-fetch : (a b c d e p q r f g h rest : Bytes)
    → (a ++ b ++ c ++ d ++ e ++ (p ++ q ++ r) ++ f ++ g ++ h) ++ rest
    ≡ a ++ (b ++ (c ++ (d ++ (e ++ (p ++ (q ++ (r ++ (f ++ (g ++ (h ++ rest))))))))))
place-fetch a b c d e p q r f g h rest = simp append_assoc

-- ---- loads and stores

-- the tokens up to a place, and the text of a place
abbrev before_place : Word → List Token
before_place size = Signed sign.Star ∷ Signed sign.Open ∷ Named size ∷ Signed sign.Star
    ∷ Signed sign.Close ∷ Signed sign.Open ∷ []

abbrev place_bytes : Place → Bytes → Bytes
place_bytes p rest = reg_text Full64 p.base ++ 32 ∷ (offset_text p.offset ++ rest)

pub load-line : (size : Size) (d : Reg) (p : Place) (ps : Parts) (rest : Bytes)
    → FitsSigned w16 p.offset → ReadsLine (Load size d p) ps rest
unfolding line_of
load-line size d p ps rest h room =
    let tail : Bytes = 42 ∷ 41 ∷ 40 ∷ place_bytes p (41 ∷ 10 ∷ rest) in
    ap (λ bs. read_rest bs 0 (draft [] ps))
    (place5 (reg_text Full64 d) (codes " = *(") (size_text size) (codes " *)(")
    (reg_text Full64 p.base) (codes " ") (offset_text p.offset) (codes ")\n") rest)
    ∙ reg-read Full64 d 32 (61 ∷ 32 ∷ 42 ∷ 40 ∷ (size_text size ++ 32 ∷ tail)) [] ps refl
    ∙ size-read size tail
    (reg Full64 d ∷ Signed sign.Assign ∷ Signed sign.Star ∷ Signed sign.Open ∷ []) ps
    ∙ place-read p 41 (10 ∷ rest)
    (reg Full64 d ∷ Signed sign.Assign ∷ before_place (word.Unsigned size)) ps h (lit< tt)
    ∙ end-read (reg Full64 d)
    (Signed sign.Assign ∷ memory_tokens (word.Unsigned size) p.base p.offset [])
    (Load size d p) ps rest (load-form size d p.base p.offset h) room

pub extending-line : (size : SignedSize) (d : Reg) (p : Place) (ps : Parts) (rest : Bytes)
    → FitsSigned w16 p.offset → ReadsLine (LoadSx size d p) ps rest
unfolding line_of
extending-line size d p ps rest h room =
    let tail : Bytes = 42 ∷ 41 ∷ 40 ∷ place_bytes p (41 ∷ 10 ∷ rest) in
    ap (λ bs. read_rest bs 0 (draft [] ps))
    (place5 (reg_text Full64 d) (codes " = *(") (signed_text size) (codes " *)(")
    (reg_text Full64 p.base) (codes " ") (offset_text p.offset) (codes ")\n") rest)
    ∙ reg-read Full64 d 32 (61 ∷ 32 ∷ 42 ∷ 40 ∷ (signed_text size ++ 32 ∷ tail)) [] ps refl
    ∙ signed_size-read size tail
    (reg Full64 d ∷ Signed sign.Assign ∷ Signed sign.Star ∷ Signed sign.Open ∷ []) ps
    ∙ place-read p 41 (10 ∷ rest)
    (reg Full64 d ∷ Signed sign.Assign ∷ before_place (word.SignExtended size)) ps h (lit< tt)
    ∙ end-read (reg Full64 d)
    (Signed sign.Assign ∷ memory_tokens (word.SignExtended size) p.base p.offset [])
    (LoadSx size d p) ps rest (extending-form size d p.base p.offset h) room

-- the tokens of a store up to its `=`
abbrev stored_so_far : Size → Place → List Token
stored_so_far size p =
    ((before_place (word.Unsigned size) ++ place_tokens p) ++ Signed sign.Close ∷ [])
    ++ Signed sign.Assign ∷ []

stored-tokens : (size : Size) (b : Reg) (by : ℤ) (ts : List Token)
    → stored_so_far size (record { base = b; offset = by }) ++ ts
    ≡ memory_tokens (word.Unsigned size) b by (Signed sign.Assign ∷ ts)
stored-tokens size b (pos n) ts = refl
stored-tokens size b (negsuc n) ts = refl

pub store-line : (size : Size) (p : Place) (s : Reg) (ps : Parts) (rest : Bytes)
    → FitsSigned w16 p.offset → ReadsLine (Store size p s) ps rest
unfolding line_of
store-line size p s ps rest h room =
    let tail : Bytes = reg_text Full64 s ++ 10 ∷ rest in
    ap (λ bs. read_rest bs 0 (draft [] ps))
    (place-2-2 (codes "*(") (size_text size) (codes " *)(") (reg_text Full64 p.base) (codes " ")
    (offset_text p.offset) (codes ") = ") (reg_text Full64 s) (codes "\n") rest)
    ∙ size-read size (42 ∷ 41 ∷ 40 ∷ place_bytes p (41 ∷ 32 ∷ 61 ∷ 32 ∷ tail))
    (Signed sign.Star ∷ Signed sign.Open ∷ []) ps
    ∙ place-read p 41 (32 ∷ 61 ∷ 32 ∷ tail) (before_place (word.Unsigned size)) ps h (lit< tt)
    ∙ reg-read Full64 s 10 rest (stored_so_far size p) ps refl
    ∙ ap (λ us. read_rest (10 ∷ rest) 0 (draft us ps))
    (stored-tokens size p.base p.offset (reg Full64 s ∷ []))
    ∙ end-read (Signed sign.Star)
    (drop 1 (memory_tokens (word.Unsigned size) p.base p.offset
    (Signed sign.Assign ∷ reg Full64 s ∷ []))) (Store size p s) ps rest
    (store-form size p.base s p.offset h) room

pub constant-line : (size : Size) (p : Place) (k : ℤ) (ps : Parts) (rest : Bytes)
    → FitsSigned w16 p.offset → FitsSigned w32 k → ReadsLine (StoreConstant size p k) ps rest
unfolding line_of
constant-line size p k ps rest h g room =
    let tail : Bytes = signed_decimal k ++ 10 ∷ rest in
    ap (λ bs. read_rest bs 0 (draft [] ps))
    (place-2-2 (codes "*(") (size_text size) (codes " *)(") (reg_text Full64 p.base) (codes " ")
    (offset_text p.offset) (codes ") = ") (signed_decimal k) (codes "\n") rest)
    ∙ size-read size (42 ∷ 41 ∷ 40 ∷ place_bytes p (41 ∷ 32 ∷ 61 ∷ 32 ∷ tail))
    (Signed sign.Star ∷ Signed sign.Open ∷ []) ps
    ∙ place-read p 41 (32 ∷ 61 ∷ 32 ∷ tail) (before_place (word.Unsigned size)) ps h (lit< tt)
    ∙ constant-read k 10 rest (stored_so_far size p) ps g (lit< tt)
    ∙ ap (λ us. read_rest (10 ∷ rest) 0 (draft us ps))
    (stored-tokens size p.base p.offset (constant_tokens k))
    ∙ end-read (Signed sign.Star)
    (drop 1 (memory_tokens (word.Unsigned size) p.base p.offset
    (Signed sign.Assign ∷ constant_tokens k))) (StoreConstant size p k) ps rest
    (constant-form size p.base p.offset k h g) room

-- ---- atomic instructions

abbrev locked_so_far : Width → Place → List Token
locked_so_far w p = ((Named word.Lock ∷ before_place (word.Unsigned (width_size w)))
    ++ place_tokens p) ++ Signed sign.Close ∷ []

locked-tokens : (w : Width) (o : AtomicOp) (b s : Reg) (by : ℤ)
    → (locked_so_far w (record { base = b; offset = by }) ++ Signed (changes o) ∷ [])
    ++ reg Full64 s ∷ []
    ≡ Named word.Lock
    ∷ memory_tokens (word.Unsigned (width_size w)) b by (Signed (changes o) ∷ reg Full64 s ∷ [])
locked-tokens w o b s (pos n) = refl
locked-tokens w o b s (negsuc n) = refl

pub lock-line : (w : Width) (o : AtomicOp) (p : Place) (s : Reg) (ps : Parts) (rest : Bytes)
    → FitsSigned w16 p.offset → ReadsLine (Atomic w o false p s) ps rest
unfolding line_of
lock-line w o p s ps rest h room =
    let tail : Bytes = atomic_text o ++ 32 ∷ (reg_text Full64 s ++ 10 ∷ rest) in
    ap (λ bs. read_rest bs 0 (draft [] ps))
    (place-lock (codes "lock *(") (size_text (width_size w)) (codes " *)(")
    (reg_text Full64 p.base) (codes " ") (offset_text p.offset) (codes ") ") (atomic_text o)
    (codes " ") (reg_text Full64 s) (codes "\n") rest)
    ∙ size-read (width_size w) (42 ∷ 41 ∷ 40 ∷ place_bytes p (41 ∷ 32 ∷ tail))
    (Named word.Lock ∷ Signed sign.Star ∷ Signed sign.Open ∷ []) ps
    ∙ place-read p 41 (32 ∷ tail)
    (Named word.Lock ∷ before_place (word.Unsigned (width_size w))) ps h (lit< tt)
    ∙ atomic-read o (reg_text Full64 s ++ 10 ∷ rest) (locked_so_far w p) ps
    ∙ reg-read Full64 s 10 rest (locked_so_far w p ++ Signed (changes o) ∷ []) ps refl
    ∙ ap (λ us. read_rest (10 ∷ rest) 0 (draft us ps)) (locked-tokens w o p.base s p.offset)
    ∙ end-read (Named word.Lock)
    (memory_tokens (word.Unsigned (width_size w)) p.base p.offset
    (Signed (changes o) ∷ reg Full64 s ∷ [])) (Atomic w o false p s) ps rest
    (lock-form w o p.base s p.offset h) room

-- the tokens of an exchange up to the comma after its place
abbrev exchanged_so_far : Word → Reg → Place → List Token
exchanged_so_far x d p =
    ((reg Full64 d ∷ Signed sign.Assign ∷ Named x ∷ Signed sign.Open ∷ []) ++ place_tokens p)
    ++ Signed sign.Comma ∷ []

exchanged-tokens : (x : Word) (d b s : Reg) (by : ℤ)
    → (exchanged_so_far x d (record { base = b; offset = by }) ++ reg Full64 s ∷ [])
    ++ Signed sign.Close ∷ [] ≡ exchange_tokens x d b by (reg Full64 s ∷ Signed sign.Close ∷ [])
exchanged-tokens x d b s (pos n) = refl
exchanged-tokens x d b s (negsuc n) = refl

compared-tokens : (x : Word) (d b s : Reg) (by : ℤ)
    → (((exchanged_so_far x d (record { base = b; offset = by }) ++ reg Full64 R0 ∷ [])
    ++ Signed sign.Comma ∷ []) ++ reg Full64 s ∷ []) ++ Signed sign.Close ∷ []
    ≡ exchange_tokens x d b by
    (reg Full64 R0 ∷ Signed sign.Comma ∷ reg Full64 s ∷ Signed sign.Close ∷ [])
compared-tokens x d b s (pos n) = refl
compared-tokens x d b s (negsuc n) = refl

pub fetch-line : (w : Width) (o : AtomicOp) (p : Place) (s : Reg) (ps : Parts) (rest : Bytes)
    → FitsSigned w16 p.offset → ReadsLine (Atomic w o true p s) ps rest
unfolding line_of
fetch-line w o p s ps rest h room =
    let tail : Bytes = reg_text Full64 s ++ 41 ∷ 10 ∷ rest in
    let from_place : Bytes = place_bytes p (44 ∷ 32 ∷ tail) in
    ap (λ bs. read_rest bs 0 (draft [] ps))
    (place-fetch (reg_text Full64 s) (codes " = ") (fetch_text o) (width_text w) (codes "(")
    (reg_text Full64 p.base) (codes " ") (offset_text p.offset) (codes ", ") (reg_text Full64 s)
    (codes ")\n") rest)
    ∙ reg-read Full64 s 32 (61 ∷ 32 ∷ (fetch_text o ++ (width_text w ++ 40 ∷ from_place))) [] ps
    refl
    ∙ fetch-read o w from_place (reg Full64 s ∷ Signed sign.Assign ∷ []) ps
    ∙ place-read p 44 (32 ∷ tail)
    (reg Full64 s ∷ Signed sign.Assign ∷ Named (word.Fetch o w) ∷ Signed sign.Open ∷ []) ps h
    (lit< tt)
    ∙ reg-read Full64 s 41 (10 ∷ rest) (exchanged_so_far (word.Fetch o w) s p) ps refl
    ∙ ap (λ us. read_rest (10 ∷ rest) 0 (draft us ps))
    (exchanged-tokens (word.Fetch o w) s p.base s p.offset)
    ∙ end-read (reg Full64 s)
    (drop 1 (exchange_tokens (word.Fetch o w) s p.base p.offset
    (reg Full64 s ∷ Signed sign.Close ∷ []))) (Atomic w o true p s) ps rest
    (fetch-form w o p.base s p.offset h) room

pub exchange-line : (w : Width) (p : Place) (s : Reg) (ps : Parts) (rest : Bytes)
    → FitsSigned w16 p.offset → ReadsLine (Exchange w p s) ps rest
unfolding line_of
exchange-line w p s ps rest h room =
    let tail : Bytes = reg_text Full64 s ++ 41 ∷ 10 ∷ rest in
    let from_place : Bytes = place_bytes p (44 ∷ 32 ∷ tail) in
    ap (λ bs. read_rest bs 0 (draft [] ps))
    (place-exchange (reg_text Full64 s) (codes " = xchg_") (width_text w) (codes "(")
    (reg_text Full64 p.base) (codes " ") (offset_text p.offset) (codes ", ") (reg_text Full64 s)
    (codes ")\n") rest)
    ∙ reg-read Full64 s 32 (61 ∷ 32 ∷ (codes "xchg_" ++ (width_text w ++ 40 ∷ from_place))) [] ps
    refl
    ∙ exchange-read w from_place (reg Full64 s ∷ Signed sign.Assign ∷ []) ps
    ∙ place-read p 44 (32 ∷ tail)
    (reg Full64 s ∷ Signed sign.Assign ∷ Named (word.Exchange w) ∷ Signed sign.Open ∷ []) ps h
    (lit< tt)
    ∙ reg-read Full64 s 41 (10 ∷ rest) (exchanged_so_far (word.Exchange w) s p) ps refl
    ∙ ap (λ us. read_rest (10 ∷ rest) 0 (draft us ps))
    (exchanged-tokens (word.Exchange w) s p.base s p.offset)
    ∙ end-read (reg Full64 s)
    (drop 1 (exchange_tokens (word.Exchange w) s p.base p.offset
    (reg Full64 s ∷ Signed sign.Close ∷ []))) (Exchange w p s) ps rest
    (exchange-form w p.base s p.offset h) room

pub compare-line : (w : Width) (p : Place) (s : Reg) (ps : Parts) (rest : Bytes)
    → FitsSigned w16 p.offset → ReadsLine (CompareExchange w p s) ps rest
unfolding line_of
compare-line w p s ps rest h room =
    let x : Word = word.CompareExchange w in
    let tail : Bytes = reg_text Full64 s ++ 41 ∷ 10 ∷ rest in
    let from_place : Bytes = place_bytes p (44 ∷ 32 ∷ 114 ∷ 48 ∷ 44 ∷ 32 ∷ tail) in
    ap (λ bs. read_rest bs 0 (draft [] ps))
    (place-2-2 (codes "r0 = cmpxchg_") (width_text w) (codes "(") (reg_text Full64 p.base)
    (codes " ") (offset_text p.offset) (codes ", r0, ") (reg_text Full64 s) (codes ")\n") rest)
    ∙ compare-read w from_place (reg Full64 R0 ∷ Signed sign.Assign ∷ []) ps
    ∙ place-read p 44 (32 ∷ 114 ∷ 48 ∷ 44 ∷ 32 ∷ tail)
    (reg Full64 R0 ∷ Signed sign.Assign ∷ Named x ∷ Signed sign.Open ∷ []) ps h (lit< tt)
    ∙ reg-read Full64 s 41 (10 ∷ rest)
    ((exchanged_so_far x R0 p ++ reg Full64 R0 ∷ []) ++ Signed sign.Comma ∷ []) ps refl
    ∙ ap (λ us. read_rest (10 ∷ rest) 0 (draft us ps)) (compared-tokens x R0 p.base s p.offset)
    ∙ end-read (reg Full64 R0)
    (drop 1 (exchange_tokens x R0 p.base p.offset
    (reg Full64 R0 ∷ Signed sign.Comma ∷ reg Full64 s ∷ Signed sign.Close ∷ [])))
    (CompareExchange w p s) ps rest (compare-form w p.base s p.offset h) room
