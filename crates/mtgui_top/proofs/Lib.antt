mod PlayLemmas
mod LegalLemmas
mod ScanLemmas
mod FileLemmas
