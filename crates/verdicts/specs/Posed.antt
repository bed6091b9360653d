-- What is asked about the words of a job: what a certificate is of.
pub use Rattle.table_certificate.specs.Posed.{posed_word, posed_words}
