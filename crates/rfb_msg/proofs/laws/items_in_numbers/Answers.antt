use Rattle.std.proofs.Common.{◌≡◌, ℕ, zero, suc, ◌<◌, true, [], ◌∷◌, ◌++◌, slice_index, codes, refl, arith}
use Rattle.rfb_msg.specs.Grammar.{is_version_byte, known}
use Rattle.rfb_msg.proofs.laws.items_in_numbers.Goals as goal

version_bytes : (i : ℕ) → i < 12 → is_version_byte i (slice_index (codes "RFB 003.889" ++ 10 ∷ []) i) ≡ true
unfolding is_version_byte
version_bytes zero h = refl
version_bytes (suc zero) h = refl
version_bytes (suc (suc zero)) h = refl
version_bytes (suc (suc (suc zero))) h = refl
version_bytes (suc (suc (suc (suc zero)))) h = refl
version_bytes (suc (suc (suc (suc (suc zero))))) h = refl
version_bytes (suc (suc (suc (suc (suc (suc zero)))))) h = refl
version_bytes (suc (suc (suc (suc (suc (suc (suc zero))))))) h = refl
version_bytes (suc (suc (suc (suc (suc (suc (suc (suc zero)))))))) h = refl
version_bytes (suc (suc (suc (suc (suc (suc (suc (suc (suc zero))))))))) h = refl
version_bytes (suc (suc (suc (suc (suc (suc (suc (suc (suc (suc zero)))))))))) h = refl
version_bytes (suc (suc (suc (suc (suc (suc (suc (suc (suc (suc (suc zero))))))))))) h = refl
version_bytes (suc (suc (suc (suc (suc (suc (suc (suc (suc (suc (suc (suc i)))))))))))) h = absurd (omega arith)

pub returns-clause-version : goal.returns-clause-version
returns-clause-version c = (refl, version_bytes)

pub returns-clause-encodings : goal.returns-clause-encodings
unfolding known
returns-clause-encodings c = ((refl, refl), refl)
