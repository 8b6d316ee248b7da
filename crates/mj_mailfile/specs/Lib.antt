pub mod MailFile
pub mod Written
